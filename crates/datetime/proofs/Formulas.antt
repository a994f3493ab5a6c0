-- The formulas by which the code counts years and months are the calendar's.
use mathlib.Core.Path.{◌≡◌, refl, sym, ap, subst, subst⁻¹, subst₂, ◌∙◌}
use mathlib.Core.Bool.{Bool, true, false, cond}
use Prim.Native.Nat.{ℕ, suc, suc-le-suc, ◌+◌, ◌-◌, ◌*◌, ◌/◌, ◌%◌, ◌≤◌, ◌<◌}
use native.Mathlib.Nat.{add-zero}
use native.Mathlib.Numerals.{add-one-le}
use native.Mathlib.Omega.{arith}
use native.Mathlib.Decide.{ℕ_discrete}
use lib.Dec.{T, eqb, eqb→eq}
use borrow.Author.Tests.{eq-eqb, ne_eqb}
use Rattle.octets.proofs.Computed.{below, below_at}
use Rattle.datetime.specs.Calendar.{leap, year_days, month_days, before, last_begun, year_of, day_of_year, month_of, day_of}
use Rattle.datetime.specs.Plain.{month_length, even_day, before_century}
use Rattle.datetime.proofs.Days.{counted, before-year, quarter, no_quarter, by_century, year-is, Last, last_begun_lem, year-months}

-- two formulas agree at the numbers from `start` on, by a computed test
pub agree : (f g : ℕ → ℕ) (start n : ℕ) → T (below n (λ j. eqb (f (start + j)) (g (start + j)))) → (k : ℕ) → start ≤ k → k < start + n → f
    k ≡ g k
agree f g start n t k a b =
    let j = k - start in
    let e : start + j ≡ k = omega arith in
    subst (λ (x : ℕ). f x ≡ g x) e
    (eqb→eq (f (start + j)) (g (start + j)) (below_at n (λ x. eqb (f (start + x)) (g (start + x))) t j (omega arith)))

-- 31 and 30 by turns
pub month_days_lem : (l : Bool) (m : ℕ) → 1 ≤ m → m < 13 → month_length l m ≡ month_days l m
month_days_lem true = agree (month_length true) (month_days true) 1 12 tt
month_days_lem false = agree (month_length false) (month_days false) 1 12 tt

-- 367 / 12 days a month, as if February had 30
abbrev pub even : ℕ → ℕ
even m = (367 * m + 10) / 12 - 31

pub starts_early : (l : Bool) (m : ℕ) → 1 ≤ m → m < 3 → even m ≡ before (month_days l) m
unfolding before
starts_early true = agree even (before (month_days true)) 1 2 tt
starts_early false = agree even (before (month_days false)) 1 2 tt

pub starts_late : (l : Bool) (m : ℕ) → 3 ≤ m → m < 13 → even m - cond l 1 2 ≡ before (month_days l) m
unfolding before
starts_late true = agree (λ m. even m - 1) (before (month_days true)) 3 10 tt
starts_late false = agree (λ m. even m - 2) (before (month_days false)) 3 10 tt

pub at_most : (l : Bool) (m r : ℕ) → r ≡ cond l 1 2 → m ≤ 12 → even m - r ≤ 335
at_most true m r e h = omega arith
at_most false m r e h = omega arith

-- and the month of a day by the same count
pub month_at : (l : Bool) (k : ℕ) → k < cond l 366 365 → (12 * even_day l k + 373) / 367 ≡ last_begun (month_days l) k 12
unfolding before last_begun
month_at true k h = agree (λ x. (12 * even_day true x + 373) / 367) (λ x. last_begun (month_days true) x 12) 0 366 tt k (omega arith)
    (omega arith)
month_at false k h = agree (λ x. (12 * even_day false x + 373) / 367) (λ x. last_begun (month_days false) x 12) 0 365 tt k (omega arith)
    (omega arith)

-- and what is left there tells the day of the month
pub day_at : (l : Bool) (k : ℕ) → k < cond l 366 365 → (12 * even_day l k + 373) % 367 / 12 + 1 ≡
    k - before (month_days l) (last_begun (month_days l) k 12) + 1
unfolding before last_begun
day_at true k h = agree (λ x. (12 * even_day true x + 373) % 367 / 12 + 1) (λ x. x - before (month_days true) (last_begun (month_days true)
    x 12)
    + 1) 0 366 tt k (omega arith) (omega arith)
day_at false k h = agree (λ x. (12 * even_day false x + 373) % 367 / 12 + 1) (λ x. x - before (month_days false) (last_begun
    (month_days false) x
    12) + 1) 0 365 tt k (omega arith) (omega arith)

-- the years of a century: 1,461 days are four
in_four : (f x : ℕ) → x ≡ 4 * f / 1461 → (365 * x + (x + 3) / 4 ≤ f) × (f < 365 * x + 365 + (x + 4) / 4)
in_four f x e = (omega arith, omega arith)

in_hundred : (f x : ℕ) → x ≡ 4 * f / 1461 → f ≤ 36524 → x ≤ 99
in_hundred f x e h = omega arith

-- a day lies in its year if it lies so in its century, be it filled by a day that the year's beginning is then put off by
no_sooner : (n b begins y f k : ℕ) → b ≤ n → begins + k ≡ b + y → y ≤ f → f ≡ n - b + k → begins ≤ n
no_sooner n b begins y f k h e l g = omega arith

no_later : (n b ends z f k : ℕ) → b ≤ n → ends + 1 ≡ b + z + 1 - k → f < z → f ≡ n - b + k → k ≤ 1 → n < ends
no_later n b ends z f k h e l g m = omega arith

-- the century of a day: 146,097 days are four
module _ (n : ℕ) (a : 365243 ≤ n) (b : n < 3652425) where
  abbrev hundred : ℕ
  hundred = 4 * n / 146097

  pub century_began : before_century hundred ≤ n
  century_began = omega arith

  -- its days are 36,524, and one more where the century is divided by four
  day_small : n - before_century hundred ≤ 36524
  day_small = omega arith

  day_smaller : (hundred % 4 ≡ 0 → ⊥) → n - before_century hundred ≤ 36523
  day_smaller h = go hundred h (omega arith)
    where
      go : (c : ℕ) → (c % 4 ≡ 0 → ⊥) → 4 * n < c * 146097 + 146097 → n - before_century c ≤ 36523
      go c h k = let e : (c + 3) / 4 ≡ c / 4 + 1 = omega arith in rw e (omega arith)

  -- the year of a day: 1,461 days of a century are four, if a day is put in that its first year lacks
  module _ (c x : ℕ) where
    next : x ≤ 99 → counted (c * 100 + x + 1) + 1 ≡ 36524 * c + (c + 4) / 4 + (365 * x + 365 + (x + 4) / 4)
    next h =
        let e₁ : (c * 100 + x + 1 + 3) / 4 ≡ c * 25 + (x + 4) / 4 = omega arith in
        let e₂ : (c * 100 + x + 1 + 99) / 100 ≡ c + 1 = omega arith in
        let e₃ : (c * 100 + x + 1 + 399) / 400 ≡ (c + 4) / 4 = omega arith in
        rw (e₁, e₂, e₃) (omega arith)

    met : x ≤ 99 → (before year_days (c * 100 + x) ≤ n) × (n < counted (c * 100 + x + 1)) → (c * 100 + x ≡ year_of n) × (x ≤ 99)
    met h l = ((year-is n (c * 100 + x) a b (subst (λ (y : ℕ). y ≤ n) (before-year (c * 100 + x)) l.0) l.1).0, h)

    year-full : c % 4 ≡ 0 → before_century c ≤ n → n - before_century c ≤ 36524 → x ≡ 4 * (n - before_century c) / 1461 →
        (c * 100 + x ≡ year_of n) × (x ≤ 99)
    year-full z lo hi e =
        let f = n - before_century c in
        let h = in_hundred f x e hi in
        let fit = in_four f x e in
        let begins : before year_days (c * 100 + x) + 0 ≡ before_century c + (365 * x + (x + 3) / 4) =
        simp (eq-eqb (c % 4) 0 z) at (by_century c x h) in
        let ends = rw (quarter c z) at (next h) in
        met h (
          no_sooner n (before_century c) _ (365 * x + (x + 3) / 4) f 0 lo begins fit.0 (sym (add-zero f)),
          no_later n (before_century c) _ (365 * x + 365 + (x + 4) / 4) f 0 lo
              (more _ (36524 * c) ((c + 3) / 4) (365 * x + 365 + (x + 4) / 4) ends) fit.1 (sym (add-zero f)) (omega arith),
        )
      where
        more : (k v w z : ℕ) → k + 1 ≡ v + (w + 1) + z → k + 1 ≡ v + w + z + 1 - 0
        more k v w z e = omega arith

    year_less : (c % 4 ≡ 0 → ⊥) → before_century c ≤ n → n - before_century c ≤ 36523 → x ≡ 4 * (n - before_century c + 1) / 1461 →
        (c * 100 + x ≡ year_of n) × (x ≤ 99)
    year_less z lo hi e =
        let f = n - before_century c + 1 in
        let h = in_hundred f x e (add-one-le (suc-le-suc hi)) in
        let fit = in_four f x e in
        let ends = rw (no_quarter c z) at (next h) in
        met h (
          elim (ℕ_discrete x 0) [
            | yes w ↦ first w (before year_days (c * 100 + x)) _ (by_century c x h) lo
            | no w ↦
                let begins : before year_days (c * 100 + x) + 1 ≡ before_century c + (365 * x + (x + 3) / 4) =
                simp (ne_eqb (c % 4) 0 z, ne_eqb x 0 w) at (by_century c x h) in
                no_sooner n (before_century c) _ (365 * x + (x + 3) / 4) f 1 lo begins fit.0 refl
          ],
          no_later n (before_century c) _ (365 * x + 365 + (x + 4) / 4) f 1 lo
              (same _ (36524 * c) ((c + 3) / 4) (365 * x + 365 + (x + 4) / 4) ends) fit.1 refl (omega arith),
        )
      where
        same : (k v w z : ℕ) → k + 1 ≡ v + w + z → k + 1 ≡ v + w + z + 1 - 1
        same k v w z e = omega arith

        first : x ≡ 0 → (begins k : ℕ) → begins + k ≡ before_century c + (365 * x + (x + 3) / 4) → before_century c ≤ n → begins ≤ n
        first w begins k e lo = omega arith

  pub year_in : (c r f x : ℕ) → c ≡ 4 * n / 146097 → r ≡ before_century c → f ≡ cond (eqb (c % 4) 0) (n - r) (n - r + 1) →
      x ≡ 4 * f / 1461 → (c * 100 + x ≡ year_of n) × (x ≤ 99)
  year_in c r f x ec er ef ex =
      let began = subst⁻¹ (λ (m : ℕ). before_century m ≤ n) ec century_began in
      elim (ℕ_discrete (c % 4) 0) [
        | yes z ↦ year-full c x z began (subst⁻¹ (λ (m : ℕ). n - before_century m ≤ 36524) ec day_small)
            (ex ∙ ap (λ (m : ℕ). 4 * m / 1461) (ef ∙ simp (eq-eqb (c % 4) 0 z) (ap (λ (m : ℕ). n - m) er)))
        | no z ↦ year_less c x z began
            (subst⁻¹ (λ (m : ℕ). n - before_century m ≤ 36523) ec (day_smaller (λ k. z (ap (λ (m : ℕ). m % 4) ec ∙ k))))
            (ex ∙ ap (λ (m : ℕ). 4 * m / 1461) (ef ∙ simp (ne_eqb (c % 4) 0 z) (ap (λ (m : ℕ). n - m + 1) er)))
      ]

-- a day to the end of the year 9999 lies in its year and month
module _ (n : ℕ) (b : n < 3652425) where
  pub in_year : Last year_days n 9999 (year_of n)
  in_year = last_begun_lem year_days n 9999 (subst⁻¹ (λ (x : ℕ). n < x) (before-year 10000) b)

  pub year_began : before year_days (year_of n) ≤ n
  year_began = in_year.begun

  pub place_small : day_of_year n < year_days (year_of n)
  unfolding before
  place_small = omega (arith, in_year.begun, in_year.not_over)

  in_month : Last (month_days (leap (year_of n))) (day_of_year n) 12 (month_of n)
  in_month = last_begun_lem (month_days (leap (year_of n))) (day_of_year n) 12
      (subst⁻¹ (λ (x : ℕ). day_of_year n < x) (year-months (leap (year_of n))) place_small)

  pub month_began : before (month_days (leap (year_of n))) (month_of n) ≤ day_of_year n
  month_began = in_month.begun

  pub month_most : month_of n ≤ 12
  month_most = in_month.most

  -- there is no month 0
  pub month_least : 1 ≤ month_of n
  unfolding before
  month_least = elim (ℕ_discrete (month_of n) 0) [
    | yes e ↦ absurd (omega (
      arith,
      subst (λ (m : ℕ). day_of_year n < before (month_days (leap (year_of n))) (suc m)) e
          in_month.not_over,
    ))
    | no e ↦ omega arith
  ]

  pub day_most : day_of n ≤ month_days (leap (year_of n)) (month_of n)
  unfolding before
  day_most = omega (arith, in_month.begun, in_month.not_over)

-- a date that was found step by step
module _ (n y b : ℕ) (small : n < 3652425) (ey : y ≡ year_of n) (eb : b ≡ before year_days y) where
  begins : b ≡ before year_days (year_of n)
  begins = eb ∙ ap (before year_days) ey

  pub began : b ≤ n
  began = subst⁻¹ (λ (x : ℕ). x ≤ n) begins (year_began n small)

  module _ (l : Bool) (el : l ≡ leap y) where
    kind : l ≡ leap (year_of n)
    kind = el ∙ ap leap ey

    pub within : n - b < cond l 366 365
    within = subst₂ (λ (x : ℕ) (t : Bool). n - x < cond t 366 365) (sym begins) (sym kind) (place_small n small)
