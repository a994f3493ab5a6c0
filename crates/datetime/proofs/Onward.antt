-- How a verdict is found part by part: a part is passed, and what is left of the form is judged from the place after it, or the text
-- stops in it. One law for a byte, from which those for two digits, for a mark before them and for parts in a row follow.
use mathlib.Core.Path.{◌≡◌, refl, sym, ap, ap₂, subst, subst⁻¹, ◌∙◌}
use mathlib.Core.Bool.{Bool, true, false, false≢true, not, cond, ◌&&◌}
use mathlib.Core.List.{List, [], ◌∷◌}
use Prim.Native.Nat.{ℕ, suc, ◌+◌, ◌*◌, ◌/◌, ◌≤◌, ◌<◌}
use native.Mathlib.Omega.{arith}
use native.Mathlib.Nat.{add-zero}
use lib.Dec.{T, eqb, ltb, leb, ltb→lt, leb→le}
use lib.ListN.{get_or, drop}
use lib.Seq.{drop-drop, get_or-drop}
use borrow.Author.Tests.{le-leb}
use Rattle.octets.specs.Bytes.{Bytes}
use Rattle.octets.proofs.Computed.{both, both_left, both_right, implies, implied, below, below_at}
use Rattle.octets.proofs.Lists.{byte-at}
use Rattle.octets.proofs.Parts.{bytes_drop}
use Rattle.octets.proofs.Tests.{is_false}
use Rattle.form.specs.Regex.{Re, alive, nullable, deriv, judge_from}
use Rattle.std.specs.Prelude.{Result, Ok, Err}
use Rattle.form.specs.declared.Stop.{Stop}
use Rattle.form.specs.Verdict.{Verdict, stops_at}
use Rattle.form.proofs.Same.{same, same-eq}
use Rattle.form.proofs.Steps.{is_true}
use Rattle.datetime.specs.Instant.{digit_of}
use Rattle.datetime.specs.Plain.{is_digit, pair, pair_at, is}
use Rattle.datetime.specs.Reading.{and_then, within, begins, two_digits, marked}

-- exactly the bytes of the rule go on, each to what is said to be next; neither the end nor 0, which is read past it, does
abbrev steps_to : Re → Bool → Re → Bool
steps_to d good q = cond good (both (alive d) (same d q)) (not (alive d))

abbrev pub goes_by : Re → (ℕ → Bool) → (ℕ → Re) → Bool
goes_by r rule next =
    both (not (nullable r)) (both (not (rule 0)) (below 256 (λ c. steps_to (deriv c r) (rule c) (next c))))

module _ (r : Re) (rule : ℕ → Bool) (next : ℕ → Re) (ok : T (goes_by r rule next)) where
  abbrev each : Bool
  each = below 256 (λ c. steps_to (deriv c r) (rule c) (next c))

  -- the first byte of what is to come
  first : (l : List ℕ) → Bytes l → (i : ℕ) →
      judge_from r i l ≡ cond (rule (get_or l 0 0)) (judge_from (next (get_or l 0 0)) (suc i) (drop 1 l)) (stops_at i)
  first [] b i =
      let e = is_false (nullable r) (both_left (not (nullable r)) (both (not (rule 0)) each) ok) in
      let z = is_false (rule 0) (both_left (not (rule 0)) each (both_right (not (nullable r)) (both (not (rule 0)) each) ok)) in
      rw (e, z)
  first (c ∷ cs) b i =
      go (rule c)
      (below_at 256 (λ x. steps_to (deriv x r) (rule x) (next x)) (both_right (not (rule 0)) each (both_right (not (nullable r)) (both
      (not (rule 0)) each) ok)) c b.0)
    where
      go : (good : Bool) → T (steps_to (deriv c r) good (next c)) → cond (alive (deriv c r)) (judge_from (deriv c r) (suc i) cs) (stops_at i) ≡
          cond good (judge_from (next c) (suc i) cs) (stops_at i)
      go true t =
          let e = is_true (alive (deriv c r)) (both_left (alive (deriv c r)) (same (deriv c r) (next c)) t) in
          let q = same-eq (deriv c r) (next c) (both_right (alive (deriv c r)) (same (deriv c r) (next c)) t) in
          rw e (ap (λ (d : Re). judge_from d (suc i) cs) q)
      go false t = rw (is_false (alive (deriv c r)) t)

-- the byte at a place of the text
pub at_place : (r : Re) (rule : ℕ → Bool) (next : ℕ → Re) → T (goes_by r rule next) → (s : List ℕ) → Bytes s → (i : ℕ) →
    judge_from r i (drop i s) ≡ cond (rule (get_or s i 0)) (judge_from (next (get_or s i 0)) (i + 1) (drop (i + 1) s)) (stops_at i)
at_place r rule next ok s b i =
    let c : get_or (drop i s) 0 0 ≡ get_or s i 0 = get_or-drop i s 0 0 ∙ ap (λ (k : ℕ). get_or s k 0) (add-zero i) in
    let n : suc i ≡ i + 1 = omega arith in
    first r rule next ok (drop i s) (bytes_drop i s b) i
    ∙ (λ j. cond (rule (c j)) (judge_from (next (c j)) (n j) (drop-drop 1 i s j)) (stops_at i))

-- one part and then another
pub on : {A B : Type 0} (v : Result A Stop) (f : A → Result B Stop) (g : A → Verdict) (h : B → Verdict) →
    ((a : A) → v ≡ Ok a → g a ≡ and_then (f a) h) → and_then v g ≡ and_then (and_then v f) h
on (Ok a) f g h e = e a refl
on (Err x) f g h e = refl

pub last_on : {A B : Type 0} (v : Result A Stop) (f : A → B) (w : Verdict) → and_then v (λ a. w) ≡ and_then (and_then v (λ a. Ok (f a))) (λ b. w)
last_on (Ok a) f w = refl
last_on (Err x) f w = refl

-- a row of two tests
pub hold_both : (a b : Bool) → T (a && b) → T a × T b
hold_both true b t = (tt, t)
hold_both false b t = absurd t

pub to_from : (lo x hi : ℕ) → T (leb lo x && leb x hi) → (lo ≤ x) × (x ≤ hi)
to_from lo x hi t = let u = hold_both (leb lo x) (leb x hi) t in (leb→le lo x u.0, leb→le x hi u.1)

pub in_range : (least most v : ℕ) → within least most v ≡ true → (least ≤ v) × (v ≤ most)
in_range least most v e = to_from least v most (subst⁻¹ T e tt)

pub digits_range : (a b : ℕ) → (is_digit a && is_digit b) ≡ true → (48 ≤ a) × (a ≤ 57) × (48 ≤ b) × (b ≤ 57)
digits_range a b e =
    let u = hold_both (is_digit a) (is_digit b) (subst⁻¹ T e tt) in
    let da = to_from 48 a 57 u.0 in
    let db = to_from 48 b 57 u.1 in
    (da.0, da.1, db.0, db.1)

-- two digits show a number; any other two bytes show one above all
pub by_digits : (P : ℕ → Type 0) (a b : ℕ) → ((48 ≤ a) × (a ≤ 57) × (48 ≤ b) × (b ≤ 57) → P (digit_of a * 10 + digit_of b)) → P 255 →
    P (pair a b)
by_digits P a b f g = go (is_digit a && is_digit b) refl
  where
    go : (t : Bool) → (is_digit a && is_digit b) ≡ t → P (cond t (digit_of a * 10 + digit_of b) 255)
    go true e = f (digits_range a b e)
    go false e = g

-- the number in a range begins with the first digit of one
begun : (least most a b : ℕ) → most < 100 → within least most (pair a b) ≡ true → begins least most a ≡ true
begun least most a b h =
    by_digits (λ v. within least most v ≡ true → begins least most a ≡ true) a b
    (λ d e. let r = in_range least most (digit_of a * 10 + digit_of b) e in
    ap₂ ◌&&◌ (le-leb (48 + least / 10) a (omega (arith, r.0, d))) (le-leb a (48 + most / 10) (omega (arith, r.1, d))))
    (λ e. absurd (omega (arith, (in_range least most 255 e).1)))

-- two digits of a number from least to most go on, and after them what is next by the number
abbrev ones_go : Re → ℕ → ℕ → (ℕ → Re) → ℕ → Bool
ones_go r least most next a = goes_by (deriv a r) (λ c. within least most (pair a c)) (λ c. next (pair a c))

abbrev pub pair_goes : Re → ℕ → ℕ → (ℕ → Re) → Bool
pair_goes r least most next =
    both (ltb most 100) (both (goes_by r (begins least most) (λ a. deriv a r))
    (below 256 (λ a. implies (begins least most a) (ones_go r least most next a))))

module _ (r : Re) (least most : ℕ) (next : ℕ → Re) (ok : T (pair_goes r least most next)) (s : List ℕ) (b : Bytes s) (i : ℕ) where
  abbrev tens : ℕ
  tens = get_or s i 0

  abbrev tens_go : Bool
  tens_go = goes_by r (begins least most) (λ a. deriv a r)

  abbrev all_go : Bool
  all_go = below 256 (λ a. implies (begins least most a) (ones_go r least most next a))

  abbrev onward : Verdict
  onward = judge_from (next (pair_at s i)) (i + 2) (drop (i + 2) s)

  first-digit : judge_from r i (drop i s) ≡ cond (begins least most tens) (judge_from (deriv tens r) (i + 1) (drop (i + 1) s)) (stops_at i)
  first-digit =
      at_place r (begins least most) (λ a. deriv a r) (both_left tens_go all_go (both_right (ltb most 100) (both tens_go all_go) ok)) s b i

  second_digit : begins least most tens ≡ true → judge_from (deriv tens r) (i + 1) (drop (i + 1) s) ≡ cond
      (within least most (pair_at s i)) onward (stops_at (i + 1))
  second_digit e =
      let all = both_right tens_go all_go (both_right (ltb most 100) (both tens_go all_go) ok) in
      let t = below_at 256 (λ a. implies (begins least most a) (ones_go r least most next a)) all tens (byte-at s b i) in
      let n : i + 1 + 1 ≡ i + 2 = omega arith in
      subst (λ (k : ℕ). judge_from (deriv tens r) (i + 1) (drop (i + 1) s) ≡ cond (within least most (pair_at s i))
      (judge_from (next (pair_at s i)) k (drop k s)) (stops_at (i + 1))) n
      (at_place (deriv tens r) (λ c. within least most (pair tens c)) (λ c. next (pair tens c))
      (implied (begins least most tens) (ones_go r least most next tens) t (subst⁻¹ T e tt)) s b (i + 1))

  pub two : judge_from r i (drop i s) ≡ and_then (two_digits s i least most) (λ v. judge_from (next v) (i + 2) (drop (i + 2) s))
  unfolding two_digits
  two = go (begins least most tens) (within least most (pair_at s i)) refl refl
    where
      go : (t w : Bool) → begins least most tens ≡ t → within least most (pair_at s i) ≡ w →
          judge_from r i (drop i s) ≡ and_then (cond w (Ok (pair_at s i)) (stops_at (cond t (i + 1) i))) (λ v. judge_from (next v) (i + 2)
          (drop (i + 2) s))
      go true true e f = first-digit ∙ rw e (second_digit e ∙ rw f refl)
      go true false e f = first-digit ∙ rw e (second_digit e ∙ rw f refl)
      go false false e f = first-digit ∙ rw e refl
      go false true e f =
          absurd (false≢true (sym e ∙ begun least most tens (get_or s (i + 1) 0) (ltb→lt most 100 (both_left (ltb most 100)
          (both tens_go all_go) ok)) f))

-- the same with a mark before them
abbrev pub marked_goes : Re → ℕ → ℕ → ℕ → (ℕ → Re) → Bool
marked_goes r c least most next = both (goes_by r (λ x. eqb x c) (λ x. deriv c r)) (pair_goes (deriv c r) least most next)

module _ (r : Re) (c least most : ℕ) (next : ℕ → Re) (ok : T (marked_goes r c least most next)) (s : List ℕ) (b : Bytes s) (i : ℕ) where
  abbrev mark_goes : Bool
  mark_goes = goes_by r (λ x. eqb x c) (λ x. deriv c r)

  pub marked_on : judge_from r i (drop i s) ≡ and_then (marked s i c least most) (λ v. judge_from (next v) (i + 3) (drop (i + 3) s))
  unfolding marked
  marked_on =
      go (is s i c) (at_place r (λ x. eqb x c) (λ x. deriv c r) (both_left mark_goes (pair_goes (deriv c r) least most next) ok) s b i)
    where
      go : (m : Bool) → judge_from r i (drop i s) ≡ cond m (judge_from (deriv c r) (i + 1) (drop (i + 1) s)) (stops_at i) →
          judge_from r i (drop i s) ≡ and_then (cond m (two_digits s (i + 1) least most) (stops_at i)) (λ v. judge_from (next v) (i + 3)
          (drop (i + 3) s))
      go true e =
          let n : i + 1 + 2 ≡ i + 3 = omega arith in
          e ∙ two (deriv c r) least most next (both_right mark_goes (pair_goes (deriv c r) least most next) ok) s b (i + 1)
          ∙ ap (λ (k : ℕ). and_then (two_digits s (i + 1) least most) (λ v. judge_from (next v) k (drop k s))) n
      go false e = e
