-- The calls noted later: what they make of the transfers, the grants and the clock that the earlier ones left.
use Prim.Native.Nat.{ℕ, suc, ◌+◌}
use mathlib.Core.Path.{◌≡◌, refl, sym, ap, ◌∙◌}
use mathlib.Core.Bool.{false}
use mathlib.Core.List.{List, [], ◌∷◌, ◌++◌, map}
use mathlib.Core.Option.{Option, none, some}
use native.Mathlib.Omega.{arith}
use lib.ListN.{length}
use lib.IntN.{ℤ}
use Rattle.rules.specs.Calls.{Content}
use Rattle.rules.specs.View.{State, reserved, committed, aborted, expired, Transfer}
use Rattle.ledger.specs.Ledger.{in_state, is_reserved}
use Rattle.recount.specs.Recount.{Entry, ending_by, or_else, end_of, prepared_by, granted_by, clock_by, and_then, transfers_of, Grant, or_not, grants_of, or_still, clock_of}
use Rattle.recount.proofs.Ascending.{From}

or_else_assoc : (a b c : State) → or_else (or_else a b) c ≡ or_else a (or_else b c)
or_else_assoc reserved b c = refl
or_else_assoc (committed f) b c = refl
or_else_assoc (aborted n) b c = refl
or_else_assoc expired b c = refl

pub or_else-reserved : (a : State) → or_else a reserved ≡ a
or_else-reserved reserved = refl
or_else-reserved (committed f) = refl
or_else-reserved (aborted n) = refl
or_else-reserved expired = refl

-- an ended transfer stays as it is
pub or_else-ended : (a b : State) → is_reserved a ≡ false → or_else a b ≡ a
or_else-ended reserved b e = cc
or_else-ended (committed f) b e = refl
or_else-ended (aborted n) b e = refl
or_else-ended expired b e = refl

-- the first of the calls that ends a transfer is among the earlier ones, or else among the later
pub end-append : (c : Content) (es ds : List Entry) → end_of c (es ++ ds) ≡ or_else (end_of c es) (end_of c ds)
unfolding end_of
end-append c [] ds = refl
end-append c (e ∷ es) ds =
    ap (or_else (ending_by c e.call)) (end-append c es ds) ∙ sym (or_else_assoc (ending_by c e.call) (end_of c es) (end_of c ds))

-- a transfer after more calls
abbrev pub later : List Entry → Transfer → Transfer
later ds t = in_state (or_else t.state (end_of t.content ds)) t

pub later-ended : (ds : List Entry) (t : Transfer) → is_reserved t.state ≡ false → later ds t ≡ t
later-ended ds t e = λ i. record { content = t.content; number = t.number; state = or_else-ended t.state (end_of t.content ds) e i }

-- the transfers of the earlier calls, each after the later ones, and then those that the later ones prepare
pub transfers_append : (n : ℕ) (es ds : List Entry) →
    transfers_of n (es ++ ds) ≡ map (later ds) (transfers_of n es) ++ transfers_of (n + length (transfers_of n es)) ds
unfolding transfers_of
transfers_append n [] ds = ap (λ m. transfers_of m ds) (omega arith)
transfers_append n (e ∷ es) ds = go (prepared_by e.call) (transfers_append n es ds) (transfers_append (suc n) es ds)
  where
    go : (o : Option Content) →
        transfers_of n (es ++ ds) ≡ map (later ds) (transfers_of n es) ++ transfers_of (n + length (transfers_of n es)) ds →
        transfers_of (suc n) (es ++ ds)
        ≡ map (later ds) (transfers_of (suc n) es) ++ transfers_of (suc n + length (transfers_of (suc n) es)) ds →
        and_then o n (λ c. end_of c (es ++ ds)) (λ m. transfers_of m (es ++ ds))
        ≡ map (later ds) (and_then o n (λ c. end_of c es) (λ m. transfers_of m es))
        ++ transfers_of (n + length (and_then o n (λ c. end_of c es) (λ m. transfers_of m es))) ds
    go none here next = here
    go (some c) here next =
        let k : suc n + length (transfers_of (suc n) es) ≡ n + suc (length (transfers_of (suc n) es)) = omega arith in
        rw (end-append c es ds, next, k)

pub grants_append : (es ds : List Entry) → grants_of (es ++ ds) ≡ grants_of es ++ grants_of ds
unfolding grants_of
grants_append [] ds = refl
grants_append (e ∷ es) ds = go (granted_by e.call) (grants_append es ds)
  where
    go : (o : Option Grant) → grants_of (es ++ ds) ≡ grants_of es ++ grants_of ds →
        or_not o (grants_of (es ++ ds)) ≡ or_not o (grants_of es) ++ grants_of ds
    go none h = h
    go (some g) h = ap (◌∷◌ g) h

pub clock-append : (t : ℤ) (es ds : List Entry) → clock_of t (es ++ ds) ≡ clock_of (clock_of t es) ds
unfolding clock_of
clock-append t [] ds = refl
clock-append t (e ∷ es) ds = clock-append (or_still (clock_by e.call) t) es ds

-- the acceptance numbers ascend
abbrev pub number_in : Transfer → ℕ
number_in t = t.number

pub transfers_ascend : (n : ℕ) (es : List Entry) → From n (map number_in (transfers_of n es))
unfolding transfers_of
transfers_ascend n [] = tt
transfers_ascend n (e ∷ es) = go (prepared_by e.call) (transfers_ascend n es) (transfers_ascend (suc n) es)
  where
    go : (o : Option Content) → From n (map number_in (transfers_of n es)) → From (suc n) (map number_in (transfers_of (suc n) es)) →
        From n (map number_in (and_then o n (λ c. end_of c es) (λ m. transfers_of m es)))
    go none here next = here
    go (some c) here next = (omega arith, next)

-- one call more
module _ (c : Content) (e : Entry) where
  pub end-one : end_of c (e ∷ []) ≡ ending_by c e.call
  unfolding end_of
  end-one = or_else-reserved (ending_by c e.call)

module _ (e : Entry) where
  -- what it prepares, what it grants, and the clock that it sets
  pub transfers_one : (n : ℕ) → transfers_of n (e ∷ []) ≡ and_then (prepared_by e.call) n (λ c. reserved) (λ m. [])
  unfolding transfers_of end_of
  transfers_one n = refl

  pub grants_one : grants_of (e ∷ []) ≡ or_not (granted_by e.call) []
  unfolding grants_of
  grants_one = refl

  pub clock-one : (t : ℤ) → clock_of t (e ∷ []) ≡ or_still (clock_by e.call) t
  unfolding clock_of
  clock-one t = refl
