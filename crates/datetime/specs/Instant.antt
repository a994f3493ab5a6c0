-- DateTime texts and instants: what a text is worth, how an instant is written, and what reader and writer answer (01, "Field texts").
use Rattle.std.specs.Prelude.{ℕ, zero, suc, ◌+◌, ◌-◌, ◌*◌, ◌/◌, ◌%◌, Bool, cond, ◌&&◌, List, [], ◌∷◌, ◌++◌, eqb, get_or, ℤ, pos, neg_ℤ, ◌+ℤ◌, nat_abs, Result, Err}
use Prim.Native.Char.{code}
use Rattle.std.proofs.Math.IntN.{sub_ℕ}
use Rattle.std.specs.Int.Signed.{le_z}
use Rattle.octets.specs.Decimal.{in_digits}
use Rattle.form.specs.Regex.{judge}
use Rattle.form.specs.Listings.{date_time_form}
use Rattle.form.specs.Writing.{Written, into_room}
use Rattle.form.specs.Verdict.{value_by}
use Rattle.form.specs.declared.Stop.{Stop}
use Rattle.form.specs.declared.Unwritten.TheVariants.{OutsideYears}
use Rattle.datetime.specs.Calendar.{day_number, year_of, month_of, day_of}

-- what a digit shows, and the digit of a number's last place
abbrev pub digit_of : ℕ → ℕ
digit_of c = c - code "0"

abbrev pub last_digit : ℕ → ℕ
last_digit x = code "0" + x % 10

-- the number that w digits from the place i on show
abbrev pub number : List ℕ → ℕ → ℕ → ℕ
number s i zero = 0
number s i (suc w) = number s i w * 10 + digit_of (get_or s (i + w) 0)

-- a date and a clock time, as people write them
pub record Civil : Type 0 where
  pub year : ℕ
  pub month : ℕ
  pub day : ℕ
  pub hour : ℕ
  pub minute : ℕ
  pub second : ℕ
  pub milli : ℕ

-- in milliseconds from 0000-01-01T00:00:00.000 of the same clock
unfoldable pub time_of : Civil → ℕ
time_of c = day_number c.year c.month c.day * 86400000 + c.hour * 3600000 + c.minute * 60000 + c.second * 1000 + c.milli

-- what stands in `yyyy-MM-ddTHH:mm:ss.SSS`
abbrev pub civil_of : List ℕ → Civil
civil_of s =
    record {
      year = number s 0 4;
      month = number s 5 2;
      day = number s 8 2;
      hour = number s 11 2;
      minute = number s 14 2;
      second = number s 17 2;
      milli = number s 20 3;
    }

-- the HH:MM of a sign and HH:MM, where this sign stands; else nothing
unfoldable pub offset_after : ℕ → List ℕ → ℕ
offset_after sign s = cond (eqb (get_or s 23 0) sign) (number s 24 2 * 3600000 + number s 27 2 * 60000) 0

-- 1970-01-01T00:00:00.000Z, in milliseconds from 0000-01-01T00:00:00.000Z
unfoldable pub epoch : ℕ
epoch = day_number 1970 1 1 * 86400000

-- "The value is milliseconds from 1970-01-01T00:00:00.000Z, negative before it; a `+` offset is subtracted"
abbrev pub instant_of : List ℕ → ℤ
instant_of s = sub_ℕ (time_of (civil_of s) + offset_after (code "-") s) (epoch + offset_after (code "+") s)

-- a value exactly of a text of listing 12's form; else the offset at which no text of the form goes on
unfoldable pub read_date_time : List ℕ → Result ℤ Stop
read_date_time s = value_by (judge date_time_form s) (instant_of s)

-- `yyyy-MM-ddTHH:mm:ss.SSS`
abbrev pub spelled : Civil → List ℕ
spelled c =
    in_digits 4 c.year ++ code "-" ∷ in_digits 2 c.month ++ code "-" ∷ in_digits 2 c.day
    ++ code "T" ∷ in_digits 2 c.hour ++ code ":" ∷ in_digits 2 c.minute ++ code ":" ∷ in_digits 2 c.second ++ code "." ∷ in_digits 3
    c.milli

-- a date, and the clock time so many milliseconds into the day
abbrev pub civil_on : ℕ → ℕ → ℕ → ℕ → Civil
civil_on y m d t =
    record {
      year = y;
      month = m;
      day = d;
      hour = t / 3600000;
      minute = t / 60000 % 60;
      second = t / 1000 % 60;
      milli = t % 1000;
    }

-- "The writer always uses `Z`"
abbrev pub utc_text : Civil → List ℕ
utc_text c = spelled c ++ code "Z" ∷ []

-- the text of an instant: of its day and the milliseconds passed of it
abbrev pub text_at : ℕ → List ℕ
text_at n =
    let day = n / 86400000 in
    utc_text (civil_on (year_of day) (month_of day) (day_of day) (n % 86400000))

unfoldable pub date_time_text : ℤ → List ℕ
date_time_text z = text_at (nat_abs (z +ℤ pos epoch))

-- "The writer's ends are -30610224000000 and 253402300799999": the years 1000 to 9999 UTC
abbrev pub earliest : ℤ
earliest = neg_ℤ (pos 30610224000000)

abbrev pub latest : ℤ
latest = pos 253402300799999

abbrev pub in_years : ℤ → Bool
in_years z = le_z earliest z && le_z z latest

-- "22, 23": outside the years first, then no room
unfoldable pub write_date_time : ℤ → ℕ → Written
write_date_time z room = cond (in_years z) (into_room (date_time_text z) room) (Err OutsideYears)
