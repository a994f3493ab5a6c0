-- Laws of the calendar.
use mathlib.Core.Path.{◌≡◌, refl, sym, ap, subst, subst⁻¹, subst₂, ◌∙◌}
use mathlib.Core.Bool.{Bool, true, false, cond, not, ◌&&◌}
use Prim.Native.Nat.{ℕ, zero, suc, suc-le-suc, ◌+◌, ◌-◌, ◌*◌, ◌/◌, ◌%◌, ◌≤◌, ◌<◌}
use native.Mathlib.Nat.{le_refl}
use native.Mathlib.Numerals.{add-one, add-one-le}
use native.Mathlib.Omega.{arith}
use native.Mathlib.Decide.{ℕ_discrete, dec_lt}
use lib.Dec.{T, eqb, leb, leb→le}
use mir.Val.{bool_byte}
use borrow.Author.Tests.{eq-eqb, ne_eqb, leb-true, leb-false}
use Rattle.octets.proofs.Computed.{both, both_left, both_right, below, below_at}
use Rattle.datetime.specs.Calendar.{year_days, month_days, before, last_begun, year_of}
use Rattle.datetime.specs.Plain.{before_century}

-- numbers that lie between two ends, by a computed test of those counted from `start`
between : (f : ℕ → ℕ) (start n lo hi : ℕ) → T (below n (λ j. both (leb lo (f (start + j))) (leb (f (start + j)) hi))) →
    (k : ℕ) → start ≤ k → k < start + n → (lo ≤ f k) × (f k ≤ hi)
between f start n lo hi t k a b =
    let j = k - start in
    let e : start + j ≡ k = omega arith in
    let u = below_at n (λ x. both (leb lo (f (start + x))) (leb (f (start + x)) hi)) t j (omega arith) in
    subst (λ (x : ℕ). (lo ≤ f x) × (f x ≤ hi)) e (
      leb→le lo (f (start + j)) (both_left (leb lo (f (start + j))) (leb (f (start + j)) hi) u),
      leb→le (f (start + j)) hi (both_right (leb lo (f (start + j))) (leb (f (start + j)) hi) u),
    )

pub month_length_lem : (l : Bool) (m : ℕ) → 1 ≤ m → m < 13 → (28 ≤ month_days l m) × (month_days l m ≤ 31)
month_length_lem true m a b = between (month_days true) 1 12 28 31 tt m a b
month_length_lem false m a b = between (month_days false) 1 12 28 31 tt m a b

-- the days before a year, without counting: a leap day for each fourth year that began, less the hundredths, with the four hundredths
abbrev pub counted : ℕ → ℕ
counted y = 365 * y + (y + 3) / 4 - (y + 99) / 100 + (y + 399) / 400

counted_next : (y : ℕ) → counted y + year_days y ≡ counted (y + 1)
counted_next y = elim (ℕ_discrete (y % 4) 0) [
  | no a ↦
      let b : (y % 100 ≡ 0 → ⊥) = λ g. a (let f : y ≡ y / 100 * 25 * 4 = omega arith in omega arith) in
      let d : (y % 400 ≡ 0 → ⊥) = λ g. a (let f : y ≡ y / 400 * 100 * 4 = omega arith in omega arith) in
      let e₁ : (y + 1 + 3) / 4 ≡ (y + 3) / 4 = omega arith in
      let e₂ : (y + 1 + 99) / 100 ≡ (y + 99) / 100 = omega arith in
      let e₃ : (y + 1 + 399) / 400 ≡ (y + 399) / 400 = omega arith in
      simp (ne_eqb (y % 4) 0 a, ne_eqb (y % 400) 0 d, e₁, e₂, e₃) (omega arith)
  | yes a ↦ elim (ℕ_discrete (y % 100) 0) [
    | no b ↦
        let d : (y % 400 ≡ 0 → ⊥) = λ g. b (let f : y ≡ y / 400 * 4 * 100 = omega arith in omega arith) in
        let e₁ : (y + 1 + 3) / 4 ≡ (y + 3) / 4 + 1 = omega arith in
        let e₂ : (y + 1 + 99) / 100 ≡ (y + 99) / 100 = omega arith in
        let e₃ : (y + 1 + 399) / 400 ≡ (y + 399) / 400 = omega arith in
        simp (eq-eqb (y % 4) 0 a, ne_eqb (y % 100) 0 b, ne_eqb (y % 400) 0 d, e₁, e₂, e₃) (omega arith)
    | yes b ↦ elim (ℕ_discrete (y % 400) 0) [
      | no d ↦
          let e₁ : (y + 1 + 3) / 4 ≡ (y + 3) / 4 + 1 = omega arith in
          let e₂ : (y + 1 + 99) / 100 ≡ (y + 99) / 100 + 1 = omega arith in
          let e₃ : (y + 1 + 399) / 400 ≡ (y + 399) / 400 = omega arith in
          simp (eq-eqb (y % 4) 0 a, eq-eqb (y % 100) 0 b, ne_eqb (y % 400) 0 d, e₁, e₂, e₃) (omega arith)
      | yes d ↦
          let e₁ : (y + 1 + 3) / 4 ≡ (y + 3) / 4 + 1 = omega arith in
          let e₂ : (y + 1 + 99) / 100 ≡ (y + 99) / 100 + 1 = omega arith in
          let e₃ : (y + 1 + 399) / 400 ≡ (y + 399) / 400 + 1 = omega arith in
          simp (eq-eqb (y % 4) 0 a, eq-eqb (y % 100) 0 b, eq-eqb (y % 400) 0 d, e₁, e₂, e₃) (omega arith)
    ]
  ]
]

pub before-year : (y : ℕ) → before year_days y ≡ counted y
unfolding before
before-year zero = refl
before-year (suc y) = ap (λ (n : ℕ). n + year_days y) (before-year y) ∙ counted_next y ∙ ap counted (add-one y)

-- centuries begin with a leap year by fours
pub quarter : (c : ℕ) → c % 4 ≡ 0 → (c + 4) / 4 ≡ (c + 3) / 4 + 1
quarter c a = omega arith

pub no_quarter : (c : ℕ) → (c % 4 ≡ 0 → ⊥) → (c + 4) / 4 ≡ (c + 3) / 4
no_quarter c a = omega arith

-- the same by century and place in it: where the century's first year is no leap year, the years after it begin a day sooner
pub by_century : (c x : ℕ) → x ≤ 99 → before year_days (c * 100 + x) + cond (not (eqb (c % 4) 0) && not (eqb x 0)) 1 0 ≡ before_century c +
    (365 * x + (x + 3) / 4)
by_century c x h = ap (λ (n : ℕ). n + cond (not (eqb (c % 4) 0) && not (eqb x 0)) 1 0) (before-year (c * 100 + x)) ∙ parts
  where
    parts : counted (c * 100 + x) + cond (not (eqb (c % 4) 0) && not (eqb x 0)) 1 0 ≡ before_century c + (365 * x + (x + 3) / 4)
    parts =
        let e₁ : (c * 100 + x + 3) / 4 ≡ c * 25 + (x + 3) / 4 = omega arith in
        elim (ℕ_discrete x 0) [
          | yes z ↦
              let e₂ : (c * 100 + x + 99) / 100 ≡ c = omega arith in
              let e₃ : (c * 100 + x + 399) / 400 ≡ (c + 3) / 4 = omega arith in
              elim (ℕ_discrete (c % 4) 0) [
                | yes a ↦ simp (eq-eqb x 0 z, eq-eqb (c % 4) 0 a, e₁, e₂, e₃) (omega arith)
                | no a ↦ simp (eq-eqb x 0 z, ne_eqb (c % 4) 0 a, e₁, e₂, e₃) (omega arith)
              ]
          | no z ↦
              let e₂ : (c * 100 + x + 99) / 100 ≡ c + 1 = omega arith in
              let e₃ : (c * 100 + x + 399) / 400 ≡ (c + 4) / 4 = omega arith in
              elim (ℕ_discrete (c % 4) 0) [
                | yes a ↦ simp (ne_eqb x 0 z, eq-eqb (c % 4) 0 a, e₁, e₂, e₃, quarter c a) (omega arith)
                | no a ↦ simp (ne_eqb x 0 z, ne_eqb (c % 4) 0 a, e₁, e₂, e₃, no_quarter c a) (omega arith)
              ]
        ]

as_count : (t : Bool) → bool_byte t ≡ cond t 1 0
as_count true = refl
as_count false = refl

pub year_begins : (c x all k : ℕ) → x ≤ 99 → all ≡ before_century c + (365 * x + (x + 3) / 4) →
    k ≡ bool_byte (not (eqb (c % 4) 0) && not (eqb x 0)) → all - k ≡ before year_days (c * 100 + x)
year_begins c x all k h e f =
    less (before year_days (c * 100 + x))
    (ap (λ (n : ℕ). before year_days (c * 100 + x) + n) (f ∙ as_count (not (eqb (c % 4) 0) && not (eqb x 0))) ∙ by_century c x h ∙ sym e)
  where
    less : (b : ℕ) → b + k ≡ all → all - k ≡ b
    less b g = omega arith

module _ (days : ℕ → ℕ) where
  -- what begins later has no fewer days before it
  pub before_mono : (a b : ℕ) → a ≤ b → before days a ≤ before days b
  unfolding before
  before_mono a zero h = let e : a ≡ 0 = omega arith in rw e (le_refl 0)
  before_mono a (suc b) h = elim (ℕ_discrete a (suc b)) [
    | yes e ↦ rw e (le_refl (before days b + days b))
    | no e ↦ let k : a ≤ b = omega arith in omega (arith, before_mono a b k)
  ]

  -- the last that began no later than a day, when all up to n are over later
  pub record Last (day n k : ℕ) : Type 0 where
    pub most : k ≤ n
    pub begun : before days k ≤ day
    pub not_over : day < before days (suc k)

  pub last_begun_lem : (day n : ℕ) → day < before days (suc n) → Last day n (last_begun days day n)
  unfolding last_begun before
  last_begun_lem day zero h = record { most = le_refl 0; begun = omega arith; not_over = h }
  last_begun_lem day (suc n) h = go (leb (before days (suc n)) day) refl (last_begun_lem day n)
    where
      go : (t : Bool) → leb (before days (suc n)) day ≡ t → (day < before days (suc n) → Last day n (last_begun days day n)) →
          Last day (suc n) (cond t (suc n) (last_begun days day n))
      go true e ih = record { most = le_refl (suc n); begun = leb-true (before days (suc n)) day e; not_over = h }
      go false e ih =
          let l = ih (leb-false (before days (suc n)) day e) in
          record { most = omega (arith, l.most); begun = l.begun; not_over = l.not_over }

  -- there is one such
  no_less : {day m n j k : ℕ} → Last day m j → Last day n k → j < k → ⊥
  no_less {day} {j = j} {k = k} a b h = omega (arith, a.not_over, b.begun, before_mono (suc j) k h)

  pub last-is : (day n k : ℕ) → Last day n k → last_begun days day n ≡ k
  last-is day n k l =
      let j = last_begun days day n in
      let m = last_begun_lem day n (omega (arith, l.not_over, before_mono (suc k) (suc n) (suc-le-suc l.most))) in
      elim (dec_lt j k) [
        | yes h ↦ absurd (no_less m l h)
        | no h ↦ elim (dec_lt k j)
            [ yes g ↦ absurd (no_less l m g) | no g ↦ omega arith ]
      ]

pub counted_mono : (a b : ℕ) → a ≤ b → counted a ≤ counted b
counted_mono a b h = subst₂ (λ (x y : ℕ). x ≤ y) (before-year a) (before-year b) (before_mono year_days a b h)

-- a year of 12 months, and its length, are one
pub year-months : (l : Bool) → before (month_days l) 13 ≡ cond l 366 365
unfolding before
year-months true = refl
year-months false = refl

-- the year of a day from 1000-01-01 to 9999-12-31, by the two days that it lies between
pub year-is : (n y : ℕ) → 365243 ≤ n → n < 3652425 → counted y ≤ n → n < counted (y + 1) → (y ≡ year_of n) × (1000 ≤ y) × (y ≤ 9999)
year-is n y lo hi a b =
    let most : y ≤ 9999 = elim (dec_lt 9999 y) [ yes h ↦ absurd (omega (arith, counted_mono 10000 y h)) | no h ↦ omega arith ] in
    let least : 1000 ≤ y = elim (dec_lt y 1000)
    [ yes h ↦ absurd (omega (arith, counted_mono (y + 1) 1000 (add-one-le h))) | no h ↦ omega arith ] in
    let last : Last year_days n 9999 y =
    record {
      most = most;
      begun = subst⁻¹ (λ (x : ℕ). x ≤ n) (before-year y) a;
      not_over = subst⁻¹ (λ (x : ℕ). n < x) (ap (before year_days) (sym (add-one y)) ∙ before-year (y + 1)) b;
    } in
    (sym (last-is year_days n 9999 y last), least, most)
