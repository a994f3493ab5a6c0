-- What the code is made of, few plain comparisons and divisions, which no promise cites.
use Rattle.std.specs.Prelude.{ℕ, ◌+◌, ◌-◌, ◌*◌, ◌/◌, ◌%◌, Bool, cond, not, ◌&&◌, ◌||◌, List, eqb, ltb, leb, get_or}
use Prim.Native.Char.{code}
use Rattle.datetime.specs.Instant.{digit_of}

abbrev pub is_digit : ℕ → Bool
is_digit c = leb (code "0") c && leb c (code "9")

-- the number that two digits show; 255, which is in no range, where one is no digit
abbrev pub pair : ℕ → ℕ → ℕ
pair a b = cond (is_digit a && is_digit b) (digit_of a * 10 + digit_of b) 255

-- whether a year is a leap year, by its two last digits and whether the hundreds are divided by four
abbrev pub leap_in : Bool → ℕ → Bool
leap_in fourth x = eqb (x % 4) 0 && (fourth || not (eqb x 0))

-- a month's days without a table: 31 and 30 by turns, beginning again in August
abbrev pub month_length : Bool → ℕ → ℕ
month_length l m = cond (eqb m 2) (cond l 29 28) (30 + (m + m / 8) % 2)

-- the days before a century, without counting
abbrev pub before_century : ℕ → ℕ
before_century c = 36524 * c + (c + 3) / 4

-- a day's place in the year, as if February had 30 days
abbrev pub even_day : Bool → ℕ → ℕ
even_day l k = cond (ltb k (61 - cond l 1 2)) k (k + cond l 1 2)

abbrev pub pair_at : List ℕ → ℕ → ℕ
pair_at s i = pair (get_or s i 0) (get_or s (i + 1) 0)

abbrev pub is : List ℕ → ℕ → ℕ → Bool
is s i c = eqb (get_or s i 0) c
