-- What a text of the form shows: the fields that were spelled, in their ranges.
use mathlib.Core.Path.{◌≡◌, refl, sym, ap, subst⁻¹, ◌∙◌}
use mathlib.Core.List.{List, ◌++◌}
use Rattle.std.specs.Prelude.{Result, Ok, Err}
use Prim.Native.Nat.{ℕ, ◌+◌, ◌*◌, ◌/◌, ◌<◌}
use Prim.Native.Char.{code}
use native.Mathlib.Nat.{add-zero}
use native.Mathlib.Omega.{arith}
use lib.ListN.{get_or}
use lib.Dec.{eqb}
use mathlib.Core.Bool.{false}
use lib.IntN.{ℤ, sub_ℕ}
use borrow.Author.Tests.{eq-eqb, ne_eqb, eqb-false}
use Rattle.octets.specs.Bytes.{Bytes}
use Rattle.form.specs.Regex.{judge}
use Rattle.form.specs.Listings.{date_time_form}
use Rattle.form.specs.declared.Stop.{Stop}
use Rattle.form.specs.Verdict.{Verdict, of_form, value_by}
use Rattle.datetime.specs.Calendar.{leap, day_number}
use Rattle.datetime.specs.Instant.{digit_of, last_digit, number, Civil, civil_of, spelled, time_of, offset_after, instant_of, read_date_time}
use Rattle.datetime.proofs.Days.{month_length_lem}
use Rattle.datetime.proofs.Signed.{epoch-is}
use Rattle.datetime.specs.Plain.{pair_at}
use Rattle.datetime.specs.Reading.{and_then, reading}
use Rattle.datetime.proofs.Passed.{shown-number, days_range, leaps, OffsetPassed, Zoned, utc_read, plus_read, minus_read, Passed, passed}
use Rattle.datetime.proofs.Walk.{reading_on}
use Rattle.datetime.proofs.Texts.{Valid, parts_of}

-- digits show the number that they were made of
pub back_two : (x : ℕ) → x < 100 → (0 + digit_of (last_digit (x / 10))) * 10 + digit_of (last_digit x) ≡ x
back_two x h = omega arith

back_three : (x : ℕ) → x < 1000 → ((0 + digit_of (last_digit (x / 10 / 10))) * 10 + digit_of (last_digit (x / 10))) * 10 + digit_of
    (last_digit x) ≡ x
back_three x h = omega arith

pub back_four : (x : ℕ) → x < 10000 →
    (((0 + digit_of (last_digit (x / 10 / 10 / 10))) * 10 + digit_of (last_digit (x / 10 / 10))) * 10 + digit_of (last_digit (x / 10))) * 10
    + digit_of (last_digit x) ≡ x
back_four x h = omega arith

-- what was spelled is read
pub civil_back : (c : Civil) → Valid c → (zone : List ℕ) → civil_of (spelled c ++ zone) ≡ c
civil_back c v zone =
    let long = (month_length_lem (leap c.year) c.month v.month_least (omega (arith, v.month_most))).1 in
    λ i. record {
      year = back_four c.year (omega (arith, v.year_most)) i;
      month = back_two c.month (omega (arith, v.month_most)) i;
      day = back_two c.day (omega (arith, v.day_most, long)) i;
      hour = back_two c.hour (omega (arith, v.hour_small)) i;
      minute = back_two c.minute (omega (arith, v.minute_small)) i;
      second = back_two c.second (omega (arith, v.second_small)) i;
      milli = back_three c.milli v.milli_small i;
    }

-- the fields of a text of the form are in their ranges
pub valid_of : (s : List ℕ) → Bytes s → judge date_time_form s ≡ of_form → Valid (civil_of s)
valid_of s b j =
    let t = parts_of s b j in
    subst⁻¹ Valid (ap civil_of t.whole ∙ civil_back t.civil t.valid t.zone) t.valid

-- what the reader counts up is what the fields are worth
module _ (s : List ℕ) (a b m d : ℕ) (ea : a ≡ number s 0 2) (eb : b ≡ number s 2 2) (em : m ≡ number s 5 2) (ed : d ≡ number s 8 2) where
  year-joined : a * 100 + b ≡ number s 0 4
  year-joined = omega arith

  pub time_counted : (n k : ℕ) → n ≡ day_number (a * 100 + b) m d → k ≡ number s 11 2 * 3600000 + number s 14 2 * 60000 + number s 17 2
      * 1000 + number s 20 3 →
      n * 86400000 + k ≡ time_of (civil_of s)
  unfolding time_of
  time_counted n k en ek =
      let e : n ≡ day_number (number s 0 4) (number s 5 2) (number s 8 2) = en ∙ (λ i. day_number (year-joined i) (em i) (ed i)) in
      sum n k (day_number (number s 0 4) (number s 5 2) (number s 8 2)) (number s 11 2) (number s 14 2) (number s 17 2) (number s 20 3)
      e ek
    where
      sum : (n k d h m s t : ℕ) → n ≡ d → k ≡ h * 3600000 + m * 60000 + s * 1000 + t → n * 86400000 + k ≡ d * 86400000 + h * 3600000 +
          m * 60000 + s * 1000 + t
      sum n k d h m s t e f = omega arith

-- and the zone is taken off
module _ (s : List ℕ) (sign : ℕ) where
  pub offset_there : get_or s 23 0 ≡ sign → (o : ℕ) → o ≡ number s 24 2 * 3600000 + number s 27 2 * 60000 → o ≡ offset_after sign s
  unfolding offset_after
  offset_there e o f = f ∙ sym (simp (eq-eqb (get_or s 23 0) sign e))

  pub offset-none : (get_or s 23 0 ≡ sign → ⊥) → 0 ≡ offset_after sign s
  unfolding offset_after
  offset-none n = sym (simp (ne_eqb (get_or s 23 0) sign n))

pub zone_off : (s : List ℕ) (l o p : ℕ) → l ≡ time_of (civil_of s) → o ≡ offset_after (code "-") s → p ≡ offset_after (code "+") s →
    sub_ℕ (l + o) (62167219200000 + p) ≡ instant_of s
zone_off s l o p el eo ep i = sub_ℕ (el i + eo i) (sym epoch-is i + ep i)

-- by the sign
module _ (s : List ℕ) (l : ℕ) (el : l ≡ time_of (civil_of s)) where
  other : (a b : ℕ) → eqb a b ≡ false → get_or s 23 0 ≡ a → get_or s 23 0 ≡ b → ⊥
  other a b n e f = eqb-false a b n (sym e ∙ f)

  pub ahead : get_or s 23 0 ≡ code "+" → (o : ℕ) → o ≡ number s 24 2 * 3600000 + number s 27 2 * 60000 → sub_ℕ l (62167219200000 + o) ≡
      instant_of s
  ahead e o f =
      ap (λ (x : ℕ). sub_ℕ x (62167219200000 + o)) (sym (add-zero l))
      ∙ zone_off s l 0 o el (offset-none s (code "-") (other (code "+") (code "-") refl e)) (offset_there s (code "+") e o f)

  pub behind : get_or s 23 0 ≡ code "-" → (o : ℕ) → o ≡ number s 24 2 * 3600000 + number s 27 2 * 60000 → sub_ℕ (l + o) 62167219200000 ≡
      instant_of s
  behind e o f = zone_off s l o 0 el (offset_there s (code "-") e o f) (offset-none s (code "+") (other (code "-") (code "+") refl e))

  pub neither : (get_or s 23 0 ≡ code "+" → ⊥) → (get_or s 23 0 ≡ code "-" → ⊥) → sub_ℕ l 62167219200000 ≡ instant_of s
  neither p m =
      ap (λ (x : ℕ). sub_ℕ x 62167219200000) (sym (add-zero l)) ∙ zone_off s l 0 0 el (offset-none s (code "-") m)
      (offset-none s (code "+") p)

-- what was read of a text is its value
module _ (s : List ℕ) where
  offset_count : (o : ℕ) → OffsetPassed s o → o ≡ number s 24 2 * 3600000 + number s 27 2 * 60000
  offset_count o p =
      let hour = shown-number s 24 (omega (arith, p.hour.1)) in
      let minute = shown-number s 27 (omega (arith, p.minute.2)) in
      sym p.count ∙ (λ i. hour i * 3600000 + minute i * 60000)

  zone_value : (n : ℕ) (z : ℤ) → n ≡ time_of (civil_of s) → Zoned s n z → z ≡ instant_of s
  zone_value n z e (utc_read f l v) =
      sym v ∙ neither s n e (λ g. eqb-false 90 43 refl (sym f ∙ g)) (λ g. eqb-false 90 45 refl (sym f ∙ g))
  zone_value n z e (plus_read o f p v) = sym v ∙ ahead s n e f o (offset_count o p)
  zone_value n z e (minus_read o f p v) = sym v ∙ behind s n e f o (offset_count o p)

  passed_value : (z : ℤ) → Passed s z → z ≡ instant_of s
  passed_value z p =
      let d = p.date_read in
      let t = p.clock_read in
      let days = (days_range (leaps s) (pair_at s 5) d.month.1 d.month.2).1 in
      let century = shown-number s 0 (omega (arith, d.century.1)) in
      let year = shown-number s 2 (omega (arith, d.year.1)) in
      let month = shown-number s 5 (omega (arith, d.month.2)) in
      let day = shown-number s 8 (omega (arith, d.day.2, days)) in
      let hour = shown-number s 11 (omega (arith, t.hour.2)) in
      let minute = shown-number s 14 (omega (arith, t.minute.2)) in
      let second = shown-number s 17 (omega (arith, t.second.2)) in
      let hundredth = shown-number s 20 (omega (arith, t.hundredth.2)) in
      zone_value (p.day * 86400000 + p.time) z
      (time_counted s (pair_at s 0) (pair_at s 2) (pair_at s 5) (pair_at s 8) century year month day p.day p.time (sym d.count)
      (sym t.count ∙ (λ i. hour i * 3600000 + minute i * 60000 + second i * 1000 + (hundredth i * 10 + digit_of (get_or s 22 0)))))
      p.zone_read

  pub reading_is : Bytes s → reading s ≡ read_date_time s
  unfolding read_date_time
  reading_is b =
      go (reading s) refl ∙ ap (λ (w : Verdict). value_by w (instant_of s)) (sym (reading_on s b))
    where
      go : (r : Result ℤ Stop) → reading s ≡ r → r ≡ value_by (and_then r (λ z. of_form)) (instant_of s)
      go (Ok z) e = ap (λ (x : ℤ). Ok x) (passed_value z (passed s z e))
      go (Err x) e = refl

-- the value of a text of the form
module _ (s : List ℕ) (v : Verdict) (e : v ≡ judge date_time_form s) where
  pub read_value : v ≡ of_form → (z : ℤ) → z ≡ instant_of s → Ok z ≡ read_date_time s
  unfolding read_date_time
  read_value f z h = ap (λ (x : ℤ). Ok x) h ∙ ap (λ (w : Verdict). value_by w (instant_of s)) (sym f ∙ e)
