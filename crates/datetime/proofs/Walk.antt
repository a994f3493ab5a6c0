-- What is read part by part is judged as listing 12 says: each part is one law, cited with the test of that part.
use mathlib.Core.Path.{◌≡◌, refl, sym, ap, subst⁻¹, ◌∙◌}
use mathlib.Core.Bool.{Bool, true, false, cond, ◌||◌}
use mathlib.Core.List.{List}
use Prim.Native.Nat.{ℕ, ◌+◌, ◌*◌, ◌%◌, ◌≤◌}
use Prim.Native.Char.{code}
use native.Mathlib.Omega.{arith}
use native.Mathlib.Decide.{ℕ_discrete}
use lib.Dec.{T, eqb, eqb→eq}
use lib.Seq.{drop-cons, drop-length}
use borrow.Author.Tests.{eq-eqb, ne_eqb}
use lib.ListN.{length, get_or, drop}
use Rattle.octets.specs.Bytes.{Bytes}
use Rattle.form.specs.Regex.{empty, judge, judge_from}
use Rattle.form.specs.Listings.{date_time_form}
use lib.IntN.{sub_ℕ}
use Rattle.std.specs.Prelude.{Ok, Err}
use Rattle.form.specs.Verdict.{Verdict, of_form, stops_at}
use Rattle.datetime.specs.Calendar.{day_number}
use Rattle.datetime.specs.Plain.{is_digit, is, leap_in, month_length}
use Rattle.datetime.specs.Reading.{and_then, marked, date, clock, ended, offset, zoned, reading}
use Rattle.datetime.proofs.Onward.{at_place, on, last_on, two, marked_on}
use Rattle.datetime.proofs.Listing.{
  after,
  hundreds,
  years,
  months,
  century_goes,
  year-goes,
  month_goes,
  day_goes_lem,
  hour_goes,
  minute_goes,
  second_goes,
  hundredth_goes,
  thousandth_goes,
  is_sign,
  zone-goes,
  offset_hour_goes,
  offset_minute_goes,
}
use Rattle.datetime.proofs.Passed.{there, pair_there, days_range, marked_read}

-- where nothing is left, the text is at its end or stops
at-end : (s : List ℕ) (n : ℕ) → n ≤ length s → ended s n ≡ judge_from empty n (drop n s)
at-end s n h = elim (ℕ_discrete (length s) n) [
  | yes e ↦ rw (eq-eqb (length s) n e) (sym (ap (judge_from empty n) (ap (λ (k : ℕ). drop k s) (sym e) ∙ drop-length s)))
  | no e ↦ rw (ne_eqb (length s) n e) (sym (ap (judge_from empty n) (drop-cons s n 0 (omega arith))))
]

closed : {A : Type 0} (v : Verdict) (a : A) → v ≡ and_then (and_then v (λ u. Ok a)) (λ x. of_form)
closed (Ok u) a = refl
closed (Err x) a = refl

module _ (s : List ℕ) (b : Bytes s) where
  date_on : judge date_time_form s ≡ and_then (date s) (λ d. judge_from (after "1000-01-01") 10 (drop 10 s))
  unfolding date
  date_on =
      two date_time_form 10 99 (λ c. hundreds (eqb (c % 4) 0)) century_goes s b 0
      ∙ on _ _ _ _ (λ c e₁. two (hundreds (eqb (c % 4) 0)) 0 99 (λ x. years (leap_in (eqb (c % 4) 0) x)) (year-goes (eqb (c % 4) 0)) s b 2
      ∙ on _ _ _ _ (λ x e₂. let l = leap_in (eqb (c % 4) 0) x in
      marked_on (years l) (code "-") 1 12 (λ m. months (month_length l m)) (month_goes l) s b 4
      ∙ on _ _ _ _ (λ m e₃. let read = marked_read s 4 (code "-") 1 12 m e₃ in
      let range = days_range l m read.1 read.2 in
      marked_on (months (month_length l m)) (code "-") 1 (month_length l m) (λ d. after "1000-01-01")
      (day_goes_lem (month_length l m) range.0 range.1) s b 7
      ∙ last_on (marked s 7 (code "-") 1 (month_length l m)) (λ d. day_number (c * 100 + x) m d) (judge_from (after "1000-01-01") 10 (drop 10 s)))))

  clock_on : judge_from (after "1000-01-01") 10 (drop 10 s) ≡ and_then (clock s) (λ t. judge_from (after "1000-01-01T00:00:00.000") 23 (drop
      23 s))
  unfolding clock
  clock_on =
      marked_on (after "1000-01-01") (code "T") 0 23 (λ h. after "1000-01-01T00") hour_goes s b 10
      ∙ on _ _ _ _ (λ h e₁. marked_on (after "1000-01-01T00") (code ":") 0 59 (λ n. after "1000-01-01T00:00") minute_goes s b 13
      ∙ on _ _ _ _ (λ n e₂. marked_on (after "1000-01-01T00:00") (code ":") 0 59 (λ n. after "1000-01-01T00:00:00") second_goes s b 16
      ∙ on _ _ _ _ (λ t e₃. marked_on (after "1000-01-01T00:00:00") (code ".") 0 99 (λ x. after "1000-01-01T00:00:00.00") hundredth_goes s b
      19
      ∙ on _ _ _ _ (λ u e₄. at_place (after "1000-01-01T00:00:00.00") is_digit (λ c. after "1000-01-01T00:00:00.000") thousandth_goes s b 22
      ∙ last (is_digit (get_or s 22 0)) _))))
    where
      last : (t : Bool) (n : ℕ) → cond t (judge_from (after "1000-01-01T00:00:00.000") 23 (drop 23 s)) (stops_at 22) ≡
          and_then (cond t (Ok n) (stops_at 22)) (λ k. judge_from (after "1000-01-01T00:00:00.000") 23 (drop 23 s))
      last true n = refl
      last false n = refl

  offset_on : judge_from (after "1000-01-01T00:00:00.000+") 24 (drop 24 s) ≡ and_then (offset s) (λ o. of_form)
  unfolding offset
  offset_on =
      two (after "1000-01-01T00:00:00.000+") 0 19 (λ h. after "1000-01-01T00:00:00.000+00") offset_hour_goes s b 24
      ∙ on _ _ _ _ (λ h e₁. marked_on (after "1000-01-01T00:00:00.000+00") (code ":") 0 59 (λ n. empty) offset_minute_goes s b 26
      ∙ on _ _ _ _ (λ n e₂. let read = marked_read s 26 (code ":") 0 59 n e₂ in
      sym (at-end s 29 (pair_there s 27 (omega (arith, read.0, read.2)))) ∙ closed (ended s 29) _))

  zone_on : (n : ℕ) → judge_from (after "1000-01-01T00:00:00.000") 23 (drop 23 s) ≡ and_then (zoned s n) (λ z. of_form)
  unfolding zoned
  zone_on n =
      go (is s 23 (code "Z")) (is s 23 (code "+")) (is s 23 (code "-")) refl
      (at_place (after "1000-01-01T00:00:00.000") (λ c. eqb c (code "Z") || is_sign c)
      (λ c. cond (eqb c (code "Z")) empty (after "1000-01-01T00:00:00.000+")) zone-goes s b 23)
    where
      go : (z p m : Bool) → is s 23 (code "Z") ≡ z → judge_from (after "1000-01-01T00:00:00.000") 23 (drop 23 s) ≡
          cond (z || (p || m)) (judge_from (cond z empty (after "1000-01-01T00:00:00.000+")) 24 (drop 24 s)) (stops_at 23) →
          judge_from (after "1000-01-01T00:00:00.000") 23 (drop 23 s) ≡
          and_then (cond z (and_then (ended s 24) (λ e. Ok (sub_ℕ n 62167219200000)))
          (cond p (and_then (offset s) (λ o. Ok (sub_ℕ n (62167219200000 + o))))
          (cond m (and_then (offset s) (λ o. Ok (sub_ℕ (n + o) 62167219200000))) (stops_at 23)))) (λ z. of_form)
      go true p m f e =
          e ∙ sym (at-end s 24 (there s 23 (omega (arith, eqb→eq (get_or s 23 0) (code "Z") (subst⁻¹ T f tt))))) ∙ closed (ended s 24) _
      go false true m f e = e ∙ offset_on ∙ last_on (offset s) (λ o. sub_ℕ n (62167219200000 + o)) of_form
      go false false true f e = e ∙ offset_on ∙ last_on (offset s) (λ o. sub_ℕ (n + o) 62167219200000) of_form
      go false false false f e = e

  -- the reading is of the form, or it stops where the form does
  pub reading_on : judge date_time_form s ≡ and_then (reading s) (λ z. of_form)
  unfolding reading
  reading_on = date_on ∙ on _ _ _ _ (λ d e₁. clock_on ∙ on _ _ _ _ (λ t e₂. zone_on (d * 86400000 + t)))
