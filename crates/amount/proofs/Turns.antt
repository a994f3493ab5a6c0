-- The steps at the place i of a text, as the reader's loops take them.
use mathlib.Core.Path.{◌≡◌, refl, sym, ap, ◌∙◌}
use mathlib.Core.List.{List, [], ◌∷◌}
use Prim.Native.Nat.{ℕ, zero, suc, ◌+◌, ◌-◌, ◌*◌, ◌/◌, ◌^◌, ◌≤◌, ◌<◌, min}
use native.Mathlib.Omega.{arith}
use native.Mathlib.Numerals.{add-one}
use native.Mathlib.Nat.{pow-suc, pow-le-pow_right, one-le-pow, lt_of_lt_of_le, mul-le-mul_right}
use native.Mathlib.Decide.{dec_lt}
use lib.ListN.{length, drop, get_or}
use lib.Seq.{drop-cons, drop-length}
use Rattle.amount.specs.Amount.{read_amount}
use Rattle.amount.specs.Rest.{whole_rest, places_rest}
use Rattle.amount.specs.Amount.{AmountRead}
use Rattle.std.specs.Prelude.{Ok}
use Rattle.form.specs.Verdict.{stops_at}
use Rattle.amount.proofs.Steps.{first-zero, first-digit, first-other, whole-digit, whole_stop, whole_point, whole-other, whole-end}
use Rattle.amount.proofs.Steps.{places-full, places-other, places-zero, places-digit, places_open, places-end}

-- the first byte
pub begin_nothing : (s : List ℕ) → length s ≡ 0 → stops_at 0 ≡ read_amount s
unfolding read_amount
begin_nothing [] e = refl
begin_nothing (c ∷ t) e = absurd (omega arith)

pub begin_zero : (s : List ℕ) → 0 < length s → get_or s 0 0 ≡ 48 → whole_rest 0 1 0 (drop 1 s) ≡ read_amount s
begin_zero [] l e = absurd (omega arith)
begin_zero (c ∷ t) l e = rw e (sym (first-zero t))

pub begin_digit : (s : List ℕ) → 0 < length s → 49 ≤ get_or s 0 0 → get_or s 0 0 ≤ 57 →
    whole_rest 17 1 (get_or s 0 0 - 48) (drop 1 s) ≡ read_amount s
begin_digit [] l a b = absurd (omega arith)
begin_digit (c ∷ t) l a b = sym (first-digit c t a b)

pub begin_other : (s : List ℕ) → 0 < length s → (48 ≤ get_or s 0 0 → 57 < get_or s 0 0) → stops_at 0 ≡ read_amount s
begin_other [] l h = absurd (omega arith)
begin_other (c ∷ t) l h = sym (first-other c t h)

module _ (s : List ℕ) (i u : ℕ) where
  pub whole_at : i < length s → i < 18 → 48 ≤ get_or s i 0 → get_or s i 0 ≤ 57 →
      whole_rest (18 - (i + 1)) (i + 1) (u * 10 + (get_or s i 0 - 48)) (drop (i + 1) s) ≡ whole_rest (18 - i) i u (drop i s)
  whole_at l m a b =
      let e : 18 - i ≡ suc (18 - (i + 1)) = omega arith in
      rw (e, drop-cons s i 0, add-one i) (sym (whole-digit i u (18 - suc i) (get_or s i 0) (drop (suc i) s) a b))

  pub whole_stop_at : (k : ℕ) → i < length s → (48 ≤ get_or s i 0 → 57 < get_or s i 0) → whole_rest 0 i u (drop i s) ≡ whole_rest k i u (drop i s)
  whole_stop_at k l h = rw (drop-cons s i 0) (sym (whole_stop i u k (get_or s i 0) (drop (suc i) s) h))

  -- the text ends, or there are 18 digits
  pub whole_limit : i ≡ min (length s) 18 → whole_rest 0 i u (drop i s) ≡ whole_rest (18 - i) i u (drop i s)
  whole_limit e = elim (dec_lt (length s) 18) [
    | yes l ↦ (let f : i ≡ length s = omega arith in
        rw (f, drop-length) (whole-end (length s) u 0 ∙ sym (whole-end (length s) u (18 - length s))))
    | no l ↦ (let f : 18 - i ≡ 0 = omega arith in rw f)
  ]

  -- where no digit may come
  pub whole-end_at : i ≤ length s → length s ≤ i → Ok (record { units = u; remainder = 0 }) ≡ whole_rest 0 i u (drop i s)
  whole-end_at a b = let e : i ≡ length s = omega arith in rw (e, drop-length) (sym (whole-end (length s) u 0))

  pub whole_point_at : i < length s → get_or s i 0 ≡ 46 → places_rest 4 46 (i + 1) u 0 (drop (i + 1) s) ≡ whole_rest 0 i u (drop i s)
  whole_point_at l e = rw (drop-cons s i 0, add-one i, e) (sym (whole_point i u 0 (drop (suc i) s)))

  pub whole-other_at : i < length s → (get_or s i 0 ≡ 46 → ⊥) → stops_at i ≡ whole_rest 0 i u (drop i s)
  whole-other_at l h = rw (drop-cons s i 0) (sym (whole-other i u (get_or s i 0) (drop (suc i) s) h))

-- the number so far stays below 10 ^ 18
pub grown : (u i d : ℕ) → u < 10 ^ i → d ≤ 9 → u * 10 + d < 10 ^ (i + 1)
grown u i d h k = rw (add-one i, pow-suc 10 i) (omega arith)

pub room : (u i : ℕ) → u < 10 ^ i → i < 18 → u < 100000000000000000
room u i h l = lt_of_lt_of_le h (pow-le-pow_right {n = 10} (omega arith) (let k : i ≤ 17 = omega arith in k))

-- the weight of the first of k places
abbrev pub Weight : ℕ → ℕ → Type 0
Weight zero w = w ≡ 0
Weight (suc k) w = w ≡ 10 ^ k

lone : (k : ℕ) → 10 ^ k ≡ 1 → k ≡ 0
lone zero e = refl
lone (suc k) e = absurd (omega (arith, one-le-pow k 10 (omega arith)))

lighter : (k w : ℕ) → w ≡ 10 ^ k → Weight k (w / 10)
lighter zero w e = omega arith
lighter (suc k) w e = omega arith

spent : (s : List ℕ) (i : ℕ) → i ≡ length s → drop i s ≡ []
spent s i e = rw (e, drop-length)

-- after the point, at the place i: k places are left, the next of weight w, p ten-thousandths are read, and the rest reads to `all`
pub record Reading (all : AmountRead) (s : List ℕ) (u p w last i : ℕ) : Type 0 where
  pub k : ℕ
  pub few : k ≤ 4
  pub weighs : Weight k w
  pub small : p + 10 ^ k ≤ 10000
  pub rest : places_rest k last i u p (drop i s) ≡ all

module _ {all : AmountRead} {s : List ℕ} {u p w last i : ℕ} where
  pub reading_small : Reading all s u p w last i → p < 10000
  reading_small r = let a = r.small in omega (arith, one-le-pow r.k 10 (omega arith))

  -- the rest, one byte and what comes after it
  opened : (r : Reading all s u p w last i) → i < length s → places_rest r.k last i u p (get_or s i 0 ∷ drop (suc i) s) ≡ all
  opened r l = rw (drop-cons s i 0 l) at r.rest

  pub reading_full : Reading all s u p w last i → i < length s → w ≡ 0 → stops_at i ≡ all
  reading_full r l z = go r.k r.weighs (opened r l)
    where
      go : (k : ℕ) → Weight k w → places_rest k last i u p (get_or s i 0 ∷ drop (suc i) s) ≡ all → stops_at i ≡ all
      go zero b d = sym (places-full last i u p (get_or s i 0) (drop (suc i) s)) ∙ d
      go (suc k) b d = absurd (omega (arith, one-le-pow k 10 (omega arith)))

  -- no digit, or a 0 in the last place
  pub reading_stop : Reading all s u p w last i → i < length s → (w ≡ 0 → ⊥) →
      (48 ≤ get_or s i 0 → get_or s i 0 ≤ 57 → (get_or s i 0 ≡ 48) × (w ≡ 1)) → stops_at i ≡ all
  reading_stop r l z h = go r.k r.weighs (dec_lt (get_or s i 0) 48) (dec_lt 57 (get_or s i 0)) ∙ opened r l
    where
      go : (k : ℕ) → Weight k w → Dec (get_or s i 0 < 48) → Dec (57 < get_or s i 0) →
          stops_at i ≡ places_rest k last i u p (get_or s i 0 ∷ drop (suc i) s)
      go zero b x y = absurd (z b)
      go (suc k) b (yes x) y = sym (places-other last i u p k (get_or s i 0) (drop (suc i) s) (omega arith))
      go (suc k) b (no x) (yes y) = sym (places-other last i u p k (get_or s i 0) (drop (suc i) s) (omega arith))
      go (suc k) b (no x) (no y) =
          let e = h (omega arith) (omega arith) in
          rw (e.0, lone k (sym b ∙ e.1)) (sym (places-zero last i u p (drop (suc i) s)))

  pub reading_digit : Reading all s u p w last i → i < length s → (w ≡ 0 → ⊥) →
      48 ≤ get_or s i 0 → get_or s i 0 ≤ 57 → (w ≡ 1 → 48 < get_or s i 0) →
      Reading all s u (p + (get_or s i 0 - 48) * w) (w / 10) (get_or s i 0) (i + 1)
  reading_digit r l z m n h = go r.k r.few r.weighs r.small (opened r l)
    where
      go : (k : ℕ) → k ≤ 4 → Weight k w → p + 10 ^ k ≤ 10000 → places_rest k last i u p (get_or s i 0 ∷ drop (suc i) s) ≡ all →
          Reading all s u (p + (get_or s i 0 - 48) * w) (w / 10) (get_or s i 0) (i + 1)
      go zero a b c d = absurd (z b)
      go (suc k) a b c d =
          let g : p + 10 ^ k * 10 ≤ 10000 = rw (pow-suc 10 k) at c in
          let q = mul-le-mul_right {m = get_or s i 0 - 48} {n = 9} (10 ^ k) (omega arith) in
          let f = places-digit last i u p k (get_or s i 0) (drop (suc i) s) (omega arith) m n (λ e. h (b ∙ ap (λ (j : ℕ). 10 ^ j) e)) in
          record { k = k; few = omega arith; weighs = lighter k w b; small = rw b (omega arith); rest = rw (b, add-one i) (sym f ∙ d) }

  pub reading_open : Reading all s u p w last i → i ≡ length s → last ≤ 48 → stops_at (length s) ≡ all
  reading_open r e h = ap (λ (n : ℕ). stops_at n) (sym e) ∙ sym (places_open last i u p r.k h) ∙ rw (spent s i e) at r.rest

  pub reading_end : Reading all s u p w last i → i ≡ length s → 48 < last → Ok (record { units = u; remainder = p }) ≡ all
  reading_end r e h = sym (places-end last i u p r.k h (reading_small r)) ∙ rw (spent s i e) at r.rest
