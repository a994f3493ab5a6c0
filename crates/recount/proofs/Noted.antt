-- One call more: what it makes of the sums over the transfers, and that the transfers and grants stay in order.
use Prim.Native.Nat.{ℕ, ◌+◌, ◌≤◌}
use mathlib.Core.Path.{◌≡◌, refl, sym, ap, ◌∙◌}
use mathlib.Core.Bool.{Bool, true, false, cond, ◌&&◌, ◌||◌}
use mathlib.Core.List.{List, [], ◌∷◌, ◌++◌, map, append-nil}
use mathlib.Core.Option.{Option, none, some}
use native.Mathlib.Omega.{arith}
use lib.ListN.{length}
use Rattle.octets.specs.Lists.{first, count, sum}
use Rattle.octets.specs.Parts.{same}
use Rattle.rules.specs.Calls.{Content, Call}
use Rattle.rules.specs.View.{State, reserved, committed, aborted, expired, Transfer}
use Rattle.octets.proofs.Walk.{sum-append, count-sum}
use Rattle.ledger.specs.Ledger.{in_state, is_reserved}
use Rattle.recount.specs.Recount.{Entry, Grant, ending_by, or_else, prepared_by, granted_by, and_then, or_not, transfers_of, grants_of, is_committed, sent, received, has_id, standing_of}
use Rattle.recount.specs.Demand.{within_cap}
use Rattle.recount.proofs.Sums.{one_if, sum_ext, sum-le, sum-map}
use Rattle.recount.proofs.Later.{later, transfers_append, transfers_one, grants_append, grants_one, end-one, or_else-reserved}
use Rattle.recount.proofs.Agrees.{keyed, stake, Orderly}
use Rattle.recount.proofs.Positions.{within, within-sums}

-- a transfer after one call more
abbrev pub advanced : Call → Transfer → Transfer
advanced c t = in_state (or_else t.state (ending_by t.content c)) t

-- the transfer that a call prepares, where n were accepted before
abbrev pub newly : Call → ℕ → List Transfer
newly c n = and_then (prepared_by c) n (λ d. reserved) (λ m. [])

module _ (es : List Entry) (e : Entry) where
  pub sum-noted : (f : Transfer → ℕ) → sum f (transfers_of 0 (es ++ (e ∷ [])))
      ≡ sum (λ t. f (advanced e.call t)) (transfers_of 0 es) + sum f (newly e.call (length (transfers_of 0 es)))
  sum-noted f =
      let ts = transfers_of 0 es in
      let one : transfers_of (0 + length ts) (e ∷ []) ≡ newly e.call (length ts) =
      transfers_one e (0 + length ts) ∙ ap (newly e.call) (omega arith) in
      ap (sum f) (transfers_append 0 es (e ∷ []) ∙ ap (◌++◌ (map (later (e ∷ [])) ts)) one)
      ∙ sum-append f (map (later (e ∷ [])) ts) (newly e.call (length ts))
      ∙ ap (λ k. k + sum f (newly e.call (length ts)))
      (sum-map f (later (e ∷ [])) ts
      ∙ sum_ext (λ t. f (later (e ∷ []) t)) (λ t. f (advanced e.call t))
      (λ t. ap (λ s. f (in_state (or_else t.state s) t)) (end-one t.content e)) ts)

  -- a call that prepares nothing
  pub sum_ends : prepared_by e.call ≡ none → (f : Transfer → ℕ) →
      sum f (transfers_of 0 (es ++ (e ∷ []))) ≡ sum (λ t. f (advanced e.call t)) (transfers_of 0 es)
  sum_ends h f = omega (arith, sum-noted f, ap (λ o. sum f (and_then o (length (transfers_of 0 es)) (λ d. reserved) (λ m. []))) h)

  -- a call that ends nothing
  pub idle : (t : Transfer) → ending_by t.content e.call ≡ reserved → advanced e.call t ≡ t
  idle t h = λ i. in_state ((ap (or_else t.state) h ∙ or_else-reserved t.state) i) t

  pub sum_idle : ((c : Content) → ending_by c e.call ≡ reserved) → (f : Transfer → ℕ) →
      sum f (transfers_of 0 (es ++ (e ∷ []))) ≡ sum f (transfers_of 0 es) + sum f (newly e.call (length (transfers_of 0 es)))
  sum_idle h f =
      omega (
        arith,
        sum-noted f,
        sum_ext (λ t. f (advanced e.call t)) f (λ t. ap f (idle t (h t.content))) (transfers_of 0 es),
      )

  -- a call that grants nothing
  pub grants_kept : granted_by e.call ≡ none → grants_of (es ++ (e ∷ [])) ≡ grants_of es
  grants_kept h =
      grants_append es (e ∷ []) ∙ ap (◌++◌ (grants_of es)) (grants_one e ∙ ap (λ o. or_not o []) h) ∙ append-nil (grants_of es)

-- an end takes nothing from what was received, and adds nothing to what was sent
module _ (c : Call) (key : List ℕ) (t : Transfer) where
  sent_falls : sent key (advanced c t) ≤ sent key t
  sent_falls = go t.state (ending_by t.content c)
    where
      by : (p q : Bool) → cond (p && q) t.content.amount 0 ≤ cond (p && true) t.content.amount 0
      by true true = omega arith
      by true false = omega arith
      by false q = omega arith

      go : (s z : State) → sent key (in_state (or_else s z) t) ≤ sent key (in_state s t)
      go reserved z = by (same t.content.payer key) (is_reserved z || is_committed z)
      go (committed f) z = omega arith
      go (aborted n) z = omega arith
      go expired z = omega arith

  received_rises : received key t ≤ received key (advanced c t)
  received_rises = go t.state (ending_by t.content c)
    where
      by : (p q : Bool) → cond (p && false) t.content.amount 0 ≤ cond (p && q) t.content.amount 0
      by true q = omega arith
      by false q = omega arith

      go : (s z : State) → received key (in_state s t) ≤ received key (in_state (or_else s z) t)
      go reserved z = by (same t.content.payee key) (is_committed z)
      go (committed f) z = omega arith
      go (aborted n) z = omega arith
      go expired z = omega arith

-- a position that does not rise stays within its cap
pub caps_kept : (ts us : List Transfer) → ((key : List ℕ) → sum (sent key) us ≤ sum (sent key) ts) →
    ((key : List ℕ) → sum (received key) ts ≤ sum (received key) us) →
    (o : Option Grant) → within_cap (standing_of ts o) ≡ true → within_cap (standing_of us o) ≡ true
caps_kept ts us less more none e = refl
caps_kept ts us less more (some g) e =
    within us g.key g.cap (omega (arith, less g.key, more g.key, within-sums ts g.key g.cap e))

pub count_kept : (q : Transfer → Bool) (ts us : List Transfer) → sum (λ t. one_if (q t)) us ≡ sum (λ t. one_if (q t)) ts →
    count q us ≡ count q ts
count_kept q ts us h = count-sum q us ∙ h ∙ sym (count-sum q ts)

-- a call that only ends transfers keeps the order
pub orderly_ends : (c : Call) (ts us : List Transfer) (gs : List Grant) →
    ((f : Transfer → ℕ) → sum f us ≡ sum (λ t. f (advanced c t)) ts) → Orderly ts gs → Orderly us gs
orderly_ends c ts us gs sums o = record {
  once = λ id. omega (arith, count_kept (has_id id) ts us (sums (λ t. one_if (has_id id t))), o.once id);
  strangers = λ key e. sums (stake key) ∙ o.strangers key e;
  caps = λ key. caps_kept ts us
      (λ k. omega (arith, sums (sent k), sum-le (λ t. sent k (advanced c t)) (sent k) (sent_falls c k) ts))
      (λ k. omega (arith, sums (received k), sum-le (received k) (λ t. received k (advanced c t)) (received_rises c k) ts))
      (first (keyed key) gs) (o.caps key);
}
