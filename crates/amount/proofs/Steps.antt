-- How a text is read on by one byte: what is left of the form after it, and the number so far. The code's loops and all theorems go by
-- these laws.
use Rattle.form.specs.Verdict.{value_by}
use mathlib.Core.Path.{◌≡◌, refl, sym, ap, ◌∙◌}
use mathlib.Core.Bool.{Bool, true, false, cond, ◌&&◌}
use mathlib.Core.List.{List, [], ◌∷◌, ◌++◌}
use Prim.Native.Nat.{ℕ, zero, suc, ◌+◌, ◌-◌, ◌*◌, ◌/◌, ◌%◌, ◌^◌, ◌≤◌, ◌<◌}
use native.Mathlib.Omega.{arith}
use native.Mathlib.Nat.{zero-add, zero-mul, pow-suc}
use native.Mathlib.Decide.{dec_lt}
use lib.Dec.{ltb, leb}
use lib.ListN.{length, take, length-append}
use lib.Seq.{length-take-le}
use Rattle.octets.specs.Ascii.{ascii}
use borrow.Author.Tests.{lt-ltb, le-ltb, le-leb, lt-leb, ne_eqb}
use Rattle.form.specs.Regex.{Re, none, empty, range, seq, alt, upto, opt, alt', deriv, judge_from}
use Rattle.form.specs.Verdict.{of_form}
use Rattle.octets.specs.Decimal.{decimal_from, decimal}
use Rattle.amount.specs.Amount.{read_amount, amount_of}
use Rattle.amount.specs.Rest.{whole_rest, places_rest, places_form, left}
use Rattle.std.specs.Prelude.{Ok}
use Rattle.form.specs.Verdict.{stops_at}

-- the value of u units and p ten-thousandths
pub held : (u p : ℕ) → p < 10000 → amount_of (u * 10000 + p) ≡ record { units = u; remainder = p }
held u p h =
    let a : (u * 10000 + p) / 10000 ≡ u = omega arith in
    let b : (u * 10000 + p) % 10000 ≡ p = omega arith in
    λ i. record { units = a i; remainder = b i }

-- a byte in a class of characters, and one outside
inside : (a b c : ℕ) → a ≤ c → c ≤ b → leb a c && leb c b ≡ true
inside a b c h k = simp (le-leb a c h, le-leb c b k)

outside : (a b c : ℕ) → (a ≤ c → b < c) → leb a c && leb c b ≡ false
outside a b c h = elim (dec_lt c a) [ yes l ↦ simp (lt-leb a c l) | no l ↦ simp (le-leb a c (omega arith), lt-leb c b (h (omega arith))) ]

-- the first byte
pub first-zero : (t : List ℕ) → read_amount (48 ∷ t) ≡ whole_rest 0 1 0 t
unfolding read_amount whole_rest
first-zero [] = refl
first-zero (c ∷ t) = refl

pub first-digit : (c : ℕ) (t : List ℕ) → 49 ≤ c → c ≤ 57 → read_amount (c ∷ t) ≡ whole_rest 17 1 (c - 48) t
unfolding read_amount whole_rest
first-digit c t a b =
    simp (ne_eqb c 46 (omega arith), outside 48 48 c (omega arith), inside 49 57 c a b)
    (ap (λ (d : ℕ). whole_rest 17 1 d t) (zero-add (c - 48)))

pub first-other : (c : ℕ) (t : List ℕ) → (48 ≤ c → 57 < c) → read_amount (c ∷ t) ≡ stops_at 0
unfolding read_amount
first-other c t h = simp (outside 48 48 c (λ a. let b = h a in omega arith), outside 49 57 c (λ a. h (omega arith)))

from_nothing : (n u : ℕ) (t : List ℕ) →
    value_by (judge_from (left 4 46) (suc n) t) (amount_of (u * 10000 + decimal (take 4 (t ++ ascii "0000")))) ≡ places_rest 4 46 (suc n) u 0 t
unfolding places_rest
from_nothing n u t =
    ap (λ (p : ℕ). value_by (judge_from (left 4 46) (suc n) t) (amount_of (u * 10000 + p))) (sym (zero-add (decimal (take 4 (t ++ ascii "0000")))))

-- before the point
module _ (n u : ℕ) where
  pub whole-digit : (k c : ℕ) (t : List ℕ) → 48 ≤ c → c ≤ 57 → whole_rest (suc k) n u (c ∷ t) ≡ whole_rest k (suc n) (u * 10 + (c - 48)) t
  unfolding whole_rest
  whole-digit k c t a b = simp (ne_eqb c 46 (omega arith), outside 46 46 c (omega arith), inside 48 57 c a b)

  pub whole_point : (k : ℕ) (t : List ℕ) → whole_rest k n u (46 ∷ t) ≡ places_rest 4 46 (suc n) u 0 t
  unfolding whole_rest places_rest
  whole_point zero t = from_nothing n u t
  whole_point (suc k) t = from_nothing n u t

  -- no digit: as where none may come
  pub whole_stop : (k c : ℕ) (t : List ℕ) → (48 ≤ c → 57 < c) → whole_rest k n u (c ∷ t) ≡ whole_rest 0 n u (c ∷ t)
  unfolding whole_rest
  whole_stop zero c t h = refl
  whole_stop (suc k) c t h = simp (outside 48 57 c h)

  pub whole-other : (c : ℕ) (t : List ℕ) → (c ≡ 46 → ⊥) → whole_rest 0 n u (c ∷ t) ≡ stops_at n
  unfolding whole_rest
  whole-other c t h = simp (outside 46 46 c (λ a. omega arith))

  pub whole-end : (k : ℕ) → whole_rest k n u [] ≡ Ok (record { units = u; remainder = 0 })
  unfolding whole_rest
  whole-end k = ap Ok (held u 0 (omega arith))

-- after the point
alt_none : (r : Re) → alt' r none ≡ r
alt_none none = refl
alt_none empty = refl
alt_none (range a b) = refl
alt_none (seq p q) = refl
alt_none (alt p q) = refl
alt_none (upto n r) = refl

-- that the text might have ended here does not change how it goes on
onward : (b : Bool) (c : ℕ) (r : Re) → deriv c (cond b (opt r) r) ≡ deriv c r
onward true c r = alt_none (deriv c r)
onward false c r = refl

onward-last : (b : Bool) (c : ℕ) → deriv c (cond b empty none) ≡ none
onward-last true c = refl
onward-last false c = refl

-- a digit counts for ten times what it would with a place less after it
pub weighed : (n : ℕ) (s : List ℕ) → decimal_from n s ≡ n * 10 ^ length s + decimal s
weighed n [] = omega arith
weighed n (c ∷ s) =
    let a = weighed (n * 10 + (c - 48)) s in
    let b = weighed (0 * 10 + (c - 48)) s in
    a ∙ rw (pow-suc 10 (length s)) (omega (arith, b))

pub first-place : (k c : ℕ) (t : List ℕ) → k ≤ length t → decimal (take (suc k) (c ∷ t)) ≡ (c - 48) * 10 ^ k + decimal (take k t)
first-place k c t h =
    let e = length-take-le k t h in
    weighed (0 * 10 + (c - 48)) (take k t) ∙ rw e (omega (arith, zero-mul 10))

-- digits 0 count for nothing
abbrev Noughts : List ℕ → Type 0
Noughts [] = Unit {0}
Noughts (c ∷ s) = (c ≡ 48) × Noughts s

noughts : (s : List ℕ) → Noughts s → (k : ℕ) → decimal (take k s) ≡ 0
noughts [] z zero = refl
noughts [] z (suc k) = refl
noughts (c ∷ s) z zero = refl
noughts (c ∷ s) z (suc k) =
    let e : 0 * 10 + (c - 48) ≡ 0 = omega arith in
    ap (λ (n : ℕ). decimal_from n (take k s)) e ∙ noughts s z.1 k

pub zeros : (k : ℕ) → decimal (take k (ascii "0000")) ≡ 0
zeros = noughts (ascii "0000") (refl, (refl, (refl, (refl, tt))))

module _ (last n u p : ℕ) where
  pub places-full : (c : ℕ) (t : List ℕ) → places_rest 0 last n u p (c ∷ t) ≡ stops_at n
  unfolding places_rest
  places-full c t = rw (onward-last (ltb 48 last) c)

  pub places-other : (k c : ℕ) (t : List ℕ) → (48 ≤ c → 57 < c) → places_rest (suc k) last n u p (c ∷ t) ≡ stops_at n
  unfolding places_rest
  places-other zero c t h = rw (onward (ltb 48 last) c (places_form 0)) (simp (outside 49 57 c (λ a. h (omega arith))))
  places-other (suc k) c t h =
      rw (onward (ltb 48 last) c (places_form (suc k))) (simp (outside 48 57 c h, outside 49 57 c (λ a. h (omega arith))))

  -- the last of four places is not 0
  pub places-zero : (t : List ℕ) → places_rest 1 last n u p (48 ∷ t) ≡ stops_at n
  unfolding places_rest
  places-zero t = rw (onward (ltb 48 last) 48 (places_form 0))

  form_digit : (k c : ℕ) (t : List ℕ) → 48 ≤ c → c ≤ 57 → (k ≡ 0 → 48 < c) →
      judge_from (left (suc k) last) n (c ∷ t) ≡ judge_from (left k c) (suc n) t
  form_digit zero c t a b h = rw (onward (ltb 48 last) c (places_form 0)) (simp (le-leb 49 c (h refl), le-leb c 57 b))
  form_digit (suc k) c t a b h =
      rw (onward (ltb 48 last) c (places_form (suc k)))
      (elim (dec_lt 48 c)
      [ yes d ↦ simp (le-leb 48 c a, le-leb 49 c d, le-leb c 57 b) | no d ↦ (let e : c ≡ 48 = omega arith in rw e) ])

  -- a digit; the last of four places is not 0
  pub places-digit : (k c : ℕ) (t : List ℕ) → k ≤ 3 → 48 ≤ c → c ≤ 57 → (k ≡ 0 → 48 < c) →
      places_rest (suc k) last n u p (c ∷ t) ≡ places_rest k c (suc n) u (p + (c - 48) * 10 ^ k) t
  unfolding places_rest
  places-digit k c t l a b h =
      let z = length-append t (ascii "0000") in
      let f = form_digit k c t a b h in
      let g = first-place k c (t ++ ascii "0000") (omega arith) in
      let d = decimal (take k (t ++ ascii "0000")) in
      let v : p + decimal (take (suc k) (c ∷ t ++ ascii "0000")) ≡ p + (c - 48) * 10 ^ k + d = omega arith in
      λ i. value_by (f i) (amount_of (u * 10000 + v i))

  pub places_open : (k : ℕ) → last ≤ 48 → places_rest k last n u p [] ≡ stops_at n
  unfolding places_rest
  places_open zero a = simp (le-ltb 48 last a)
  places_open (suc k) a = simp (le-ltb 48 last a)

  form_end : (k : ℕ) → 48 < last → judge_from (left k last) n [] ≡ of_form
  form_end zero a = simp (lt-ltb 48 last a)
  form_end (suc k) a = simp (lt-ltb 48 last a)

  pub places-end : (k : ℕ) → 48 < last → p < 10000 → places_rest k last n u p [] ≡ Ok (record { units = u; remainder = p })
  unfolding places_rest
  places-end k a b =
      let f = form_end k a in
      let v : p + decimal (take k (ascii "0000")) ≡ p = omega (arith, zeros k) in
      (λ i. value_by (f i) (amount_of (u * 10000 + v i))) ∙ ap Ok (held u p b)
