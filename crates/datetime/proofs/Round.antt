-- The time of a date, both ways: its range, and an instant's text read back.
use mathlib.Core.Path.{◌≡◌, refl, sym, ap, subst, subst⁻¹, ◌∙◌}
use mathlib.Core.Bool.{true}
use mathlib.Core.List.{[], ◌∷◌}
use Rattle.std.specs.Prelude.{Ok}
use Prim.Native.Nat.{ℕ, suc, suc-le-suc, ◌+◌, ◌-◌, ◌*◌, ◌/◌, ◌%◌, ◌≤◌, ◌<◌}
use Prim.Native.Char.{code}
use native.Mathlib.Numerals.{add-one}
use native.Mathlib.Omega.{arith}
use borrow.Author.Tests.{eqb-false}
use lib.IntN.{ℤ, sub_ℕ}
use Rattle.form.specs.Regex.{judge}
use Rattle.form.specs.Listings.{date_time_form}
use Rattle.form.specs.Verdict.{of_form}
use Rattle.datetime.specs.Calendar.{leap, year_days, month_days, before, day_number, year_of, month_of, day_of}
use Rattle.datetime.specs.Instant.{Civil, time_of, civil_on, text_at, date_time_text, instant_of, read_date_time, in_years}
use Rattle.datetime.proofs.Days.{before-year, before_mono, counted_mono, year-months, year-is}
use Rattle.datetime.proofs.Formulas.{in_year, year_began, month_began, month_least, month_most, day_most}
use Rattle.datetime.proofs.Signed.{since, count-is}
use Rattle.datetime.proofs.Texts.{Valid, utc, in_form_lem}
use Rattle.datetime.proofs.Values.{civil_back, neither, read_value}

-- a valid date's day lies from 1000-01-01 to 9999-12-31
module _ (c : Civil) (v : Valid c) where
  day_least : 365243 ≤ day_number c.year c.month c.day
  day_least =
      let a : 365243 ≤ before year_days c.year = subst⁻¹ (λ (x : ℕ). 365243 ≤ x) (before-year c.year)
      (counted_mono 1000 c.year v.year_least) in
      omega arith

  day_in_year : before (month_days (leap c.year)) c.month + (c.day - 1) < year_days c.year
  unfolding before
  day_in_year =
      let over = subst (λ (x : ℕ). before (month_days (leap c.year)) (suc c.month) ≤ x) (year-months (leap c.year))
      (before_mono (month_days (leap c.year)) (suc c.month) 13 (suc-le-suc v.month_most)) in
      omega (arith, v.day_least, v.day_most, over)

  day_most_of : day_number c.year c.month c.day < 3652425
  unfolding before
  day_most_of =
      let over = subst (λ (x : ℕ). before year_days (suc c.year) ≤ x) (before-year 10000)
      (before_mono year_days (suc c.year) 10000 (suc-le-suc v.year_most)) in
      omega (arith, day_in_year, over)

  pub time_range : (31556995200000 ≤ time_of c) × (time_of c < 315569520000000)
  unfolding time_of
  time_range =
      let lo = day_least in
      let hi = day_most_of in
      between (day_number c.year c.month c.day) c.hour c.minute c.second c.milli lo hi v.hour_small
      v.minute_small v.second_small v.milli_small
    where
      between : (d h n s t : ℕ) → 365243 ≤ d → d < 3652425 → h < 24 → n < 60 → s < 60 → t < 1000 →
          (31556995200000 ≤ d * 86400000 + h * 3600000 + n * 60000 + s * 1000 + t) ×
          (d * 86400000 + h * 3600000 + n * 60000 + s * 1000 + t < 315569520000000)
      between d h n s t a b e f g k = omega arith

-- the milliseconds of a day are those of its hours, minutes and seconds
clock_back : (t : ℕ) → t / 3600000 * 3600000 + t / 60000 % 60 * 60000 + t / 1000 % 60 * 1000 + t % 1000 ≡ t
clock_back t =
    let m : t / 60000 ≡ t / 1000 / 60 = omega arith in
    let h : t / 3600000 ≡ t / 1000 / 60 / 60 = omega arith in
    rw (h, m) (omega arith)

module _ (n : ℕ) (lo : 365243 ≤ n) (hi : n < 3652425) where
  -- the date of a day has that day's number
  day_back : day_number (year_of n) (month_of n) (day_of n) ≡ n
  day_back = join (before year_days (year_of n)) (before (month_days (leap (year_of n))) (month_of n)) n (year_began n hi) (month_began n hi)
    where
      join : (a b n : ℕ) → a ≤ n → b ≤ n - a → a + b + (n - a - b + 1 - 1) ≡ n
      join a b n h k = omega arith

  year_range : (1000 ≤ year_of n) × (year_of n ≤ 9999)
  year_range =
      let l = in_year n hi in
      let y = year-is n (year_of n) lo hi (subst (λ (x : ℕ). x ≤ n) (before-year (year_of n)) l.begun)
      (subst (λ (x : ℕ). n < x) (ap (before year_days) (sym (add-one (year_of n))) ∙ before-year (year_of n + 1)) l.not_over) in
      (y.1, y.2)

  module _ (t : ℕ) (small : t < 86400000) where
    abbrev civil : Civil
    civil = civil_on (year_of n) (month_of n) (day_of n) t

    pub valid_at : Valid civil
    valid_at =
        record {
          year_least = year_range.0;
          year_most = year_range.1;
          month_least = month_least n hi;
          month_most = month_most n hi;
          day_least = omega arith;
          day_most = day_most n hi;
          hour_small = omega arith;
          minute_small = omega arith;
          second_small = omega arith;
          milli_small = omega arith;
        }

    pub time_at : time_of civil ≡ n * 86400000 + t
    unfolding time_of
    time_at = sum (day_number (year_of n) (month_of n) (day_of n)) (t / 3600000 * 3600000) (t / 60000 % 60 * 60000) (t / 1000 % 60 * 1000)
        (t % 1000) day_back (clock_back t)
      where
        sum : (d a b e f : ℕ) → d ≡ n → a + b + e + f ≡ t → d * 86400000 + a + b + e + f ≡ n * 86400000 + t
        sum d a b e f g h = omega arith

-- so is the count of a whole text
module _ (n : ℕ) (lo : 31556995200000 ≤ n) (hi : n < 315569520000000) where
  abbrev whole : Civil
  whole = civil_on (year_of (n / 86400000)) (month_of (n / 86400000)) (day_of (n / 86400000)) (n % 86400000)

  whole_valid : Valid whole
  whole_valid = valid_at (n / 86400000) (omega arith) (omega arith) (n % 86400000) (omega arith)

  whole_time : time_of whole ≡ n
  whole_time = time_at (n / 86400000) (omega arith) (omega arith) (n % 86400000) (omega arith) ∙ parts
    where
      parts : n / 86400000 * 86400000 + n % 86400000 ≡ n
      parts = omega arith

  text-fits : judge date_time_form (text_at n) ≡ of_form
  text-fits = in_form_lem whole whole_valid (code "Z" ∷ []) utc

  text-value : instant_of (text_at n) ≡ sub_ℕ n 62167219200000
  text-value =
      sym (neither (text_at n) n (sym (ap time_of (civil_back whole whole_valid (code "Z" ∷ [])) ∙ whole_time)) (eqb-false 90 43 refl)
      (eqb-false 90 45 refl))

-- `round`: every instant that can be written is written as a text of the form that reads back to it
pub round : (z : ℤ) → in_years z ≡ true → (judge date_time_form (date_time_text z) ≡ of_form) × (read_date_time (date_time_text z) ≡ Ok z)
unfolding date_time_text
round z e =
    let s = since z e in
    let n = s.count in
    let fits = text-fits n s.least s.most in
    let value = text-value n s.least s.most ∙ s.back in
    subst (λ (m : ℕ). (judge date_time_form (text_at m) ≡ of_form) × (read_date_time (text_at m) ≡ Ok z)) (count-is z s)
    (fits, sym (read_value (text_at n) of_form (sym fits) refl z (sym value)))
