-- The Gregorian calendar, in days from 0000-01-01. Years, months and days of a month are counted as people count them.
use Rattle.std.specs.Prelude.{ℕ, zero, suc, ◌+◌, ◌-◌, ◌%◌, Bool, cond, not, ◌&&◌, ◌||◌, [], ◌∷◌, leb, eqb, get_or}

-- "Gregorian leap days": every fourth year, not every hundredth, but every four hundredth
abbrev pub leap : ℕ → Bool
leap y = (eqb (y % 4) 0 && not (eqb (y % 100) 0)) || eqb (y % 400) 0

-- the days of a year
abbrev pub year_days : ℕ → ℕ
year_days y = cond (leap y) 366 365

-- the days of a month, in a leap year or not; there is no month 0
abbrev pub month_days : Bool → ℕ → ℕ
month_days l m = get_or (0 ∷ 31 ∷ cond l 29 28 ∷ 31 ∷ 30 ∷ 31 ∷ 30 ∷ 31 ∷ 31 ∷ 30 ∷ 31 ∷ 30 ∷ 31 ∷ []) m 0

-- the days before a year or a month: those of all that come before it
unfoldable pub before : (ℕ → ℕ) → ℕ → ℕ
before days zero = 0
before days (suc n) = before days n + days n

-- the number of a day: how many days lie between 0000-01-01 and it
abbrev pub day_number : ℕ → ℕ → ℕ → ℕ
day_number y m d = before year_days y + before (month_days (leap y)) m + (d - 1)

-- the year or month, at most n, that a day falls in: the last that begins no later
unfoldable pub last_begun : (ℕ → ℕ) → ℕ → ℕ → ℕ
last_begun days day zero = zero
last_begun days day (suc n) = cond (leb (before days (suc n)) day) (suc n) (last_begun days day n)

-- the year, month and day of the month of the day with this number, to the year 9999
abbrev pub year_of : ℕ → ℕ
year_of n = last_begun year_days n 9999

abbrev pub day_of_year : ℕ → ℕ
day_of_year n = n - before year_days (year_of n)

abbrev pub month_of : ℕ → ℕ
month_of n = last_begun (month_days (leap (year_of n))) (day_of_year n) 12

abbrev pub day_of : ℕ → ℕ
day_of n = day_of_year n - before (month_days (leap (year_of n))) (month_of n) + 1
