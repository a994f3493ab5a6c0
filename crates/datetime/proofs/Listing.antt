-- Listing 12 part by part: at which bytes it goes on in each part, and what is left of it after the part, tested by computation.
use Prim.Native.Nat.{ℕ, ◌+◌, ◌-◌, ◌%◌, ◌≤◌}
use Prim.Native.Char.{code}
use Prim.Native.String.{String}
use native.Mathlib.Omega.{arith}
use native.Mathlib.Decide.{ℕ_discrete}
use mathlib.Core.Path.{◌≡◌, subst}
use mathlib.Core.Bool.{Bool, true, false, cond, ◌||◌}
use lib.Dec.{T, eqb}
use Rattle.octets.specs.Ascii.{ascii}
use Rattle.octets.proofs.Computed.{below_at}
use Rattle.form.specs.Regex.{Re, empty}
use Rattle.form.specs.Listings.{date_time_form}
use Rattle.form.proofs.Same.{same}
use Rattle.form.proofs.Steps.{left}
use Rattle.datetime.specs.Plain.{is_digit, leap_in, month_length}
use Rattle.datetime.proofs.Onward.{goes_by, pair_goes, marked_goes}

-- what is left of the form after a text of it
abbrev pub after : String → Re
after text = left date_time_form (ascii text)

-- after two digits of the year, by whether they are divided by four
abbrev pub hundreds : Bool → Re
hundreds fourth = cond fourth (after "12") (after "10")

-- after the year, by whether it is a leap year
abbrev pub years : Bool → Re
years l = cond l (after "1004") (after "1000")

-- after the month, by its length
abbrev pub months : ℕ → Re
months days = cond (eqb days 31) (after "1000-01")
    (cond (eqb days 30) (after "1000-04") (cond (eqb days 29) (after "1004-02") (after "1000-02")))

pub century_goes : T (pair_goes date_time_form 10 99 (λ c. hundreds (eqb (c % 4) 0)))
unfolding same ℕ_discrete
century_goes = tt

pub year-goes : (fourth : Bool) → T (pair_goes (hundreds fourth) 0 99 (λ x. years (leap_in fourth x)))
unfolding same ℕ_discrete
year-goes true = tt
year-goes false = tt

pub month_goes : (l : Bool) → T (marked_goes (years l) (code "-") 1 12 (λ m. months (month_length l m)))
unfolding same ℕ_discrete
month_goes true = tt
month_goes false = tt

abbrev day_goes : ℕ → Bool
day_goes days = marked_goes (months days) (code "-") 1 days (λ d. after "1000-01-01")

pub day_goes_lem : (days : ℕ) → 28 ≤ days → days ≤ 31 → T (day_goes days)
unfolding same ℕ_discrete
day_goes_lem days a b =
    let e : 28 + (days - 28) ≡ days = omega arith in
    subst (λ (x : ℕ). T (day_goes x)) e (below_at 4 (λ k. day_goes (28 + k)) tt (days - 28) (omega arith))

pub hour_goes : T (marked_goes (after "1000-01-01") (code "T") 0 23 (λ h. after "1000-01-01T00"))
unfolding same ℕ_discrete
hour_goes = tt

pub minute_goes : T (marked_goes (after "1000-01-01T00") (code ":") 0 59 (λ n. after "1000-01-01T00:00"))
unfolding same ℕ_discrete
minute_goes = tt

pub second_goes : T (marked_goes (after "1000-01-01T00:00") (code ":") 0 59 (λ n. after "1000-01-01T00:00:00"))
unfolding same ℕ_discrete
second_goes = tt

pub hundredth_goes : T (marked_goes (after "1000-01-01T00:00:00") (code ".") 0 99 (λ x. after "1000-01-01T00:00:00.00"))
unfolding same ℕ_discrete
hundredth_goes = tt

pub thousandth_goes : T (goes_by (after "1000-01-01T00:00:00.00") is_digit (λ c. after "1000-01-01T00:00:00.000"))
unfolding same ℕ_discrete
thousandth_goes = tt

-- a zone begins with `Z`, after which nothing is left, or with a sign
abbrev pub is_sign : ℕ → Bool
is_sign c = eqb c (code "+") || eqb c (code "-")

pub zone-goes :
    T (goes_by (after "1000-01-01T00:00:00.000") (λ c. eqb c (code "Z") || is_sign c) (λ c. cond (eqb c (code "Z")) empty
    (after "1000-01-01T00:00:00.000+")))
unfolding same ℕ_discrete
zone-goes = tt

pub offset_hour_goes : T (pair_goes (after "1000-01-01T00:00:00.000+") 0 19 (λ h. after "1000-01-01T00:00:00.000+00"))
unfolding same ℕ_discrete
offset_hour_goes = tt

pub offset_minute_goes : T (marked_goes (after "1000-01-01T00:00:00.000+00") (code ":") 0 59 (λ n. empty))
unfolding same ℕ_discrete
offset_minute_goes = tt
