-- 01, "Both sides of each limit": the rows that it marks P, in its order, each by computation. The other rows are run by this program.
use mathlib.Core.Path.{◌≡◌, refl}
use mathlib.Core.List.{List, [], ◌∷◌, map}
use Prim.Native.Nat.{ℕ}
use Prim.Native.String.{String}
use lib.IntN.{pos, neg_ℤ}
use Rattle.octets.specs.Ascii.{ascii}
use Rattle.std.specs.Prelude.{Ok, Err}
use Rattle.amount.specs.Amount.{AmountRead, read_amount}
use Rattle.datetime.specs.Calendar.{before}
use Rattle.datetime.specs.Instant.{time_of, offset_after, epoch, read_date_time}

-- a text and what it reads to
pub record Row : Type 0 where
  pub text : String
  pub reads : AmountRead

abbrev row : String → AmountRead → Row
row t r = record { text = t; reads = r }

-- so many units and ten-thousandths
abbrev is : ℕ → ℕ → AmountRead
is u r = Ok (record { units = u; remainder = r })

-- refused, at this offset
abbrev stops : ℕ → AmountRead
stops n = Err (record { at = n })

-- "P `5`, `5.5`, `0.5`, `0`, `5.5555` read; P `5.0`, `5.`, `.5`, `00.5`, `-5.5`, `5.55555` refused (001, table 38)"
abbrev pub rows : List Row
rows =
    row "5" (is 5 0)
    ∷ row "5.5" (is 5 5000)
    ∷ row "0.5" (is 0 5000)
    ∷ row "0" (is 0 0)
    ∷ row "5.5555" (is 5 5555)
    ∷ row "5.0" (stops 3)
    ∷ row "5." (stops 2)
    ∷ row ".5" (stops 0)
    ∷ row "00.5" (stops 1)
    ∷ row "-5.5" (stops 0)
    ∷ row "5.55555" (stops 6)
    ∷ []

pub table38 : map (λ (r : Row). read_amount (ascii r.text)) rows ≡ map (λ (r : Row). r.reads) rows
unfolding read_amount
table38 = refl

-- "P `2016-05-24T08:38:08.699Z` is 1464079088699"
pub in_utc : read_date_time (ascii "2016-05-24T08:38:08.699Z") ≡ Ok (pos 1464079088699)
unfolding read_date_time time_of offset_after epoch before
in_utc = refl

-- "with `-04:00` 1464093488699"
pub with-offset : read_date_time (ascii "2016-05-24T08:38:08.699-04:00") ≡ Ok (pos 1464093488699)
unfolding read_date_time time_of offset_after epoch before
with-offset = refl

-- "P `1969-12-31T23:59:59.999Z` is -1"
pub before_1970 : read_date_time (ascii "1969-12-31T23:59:59.999Z") ≡ Ok (neg_ℤ (pos 1))
unfolding read_date_time time_of offset_after epoch before
before_1970 = refl
