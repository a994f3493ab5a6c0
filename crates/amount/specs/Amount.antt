-- What an amount's text reads to, and the text of an amount (01, "Amount"; 001, 4.2.13).
use Rattle.std.specs.Prelude.{ℕ, zero, suc, ◌+◌, ◌*◌, ◌/◌, ◌%◌, ◌^◌, List, [], ◌∷◌, ◌++◌, cond, ◌||◌, ltb, leb, eqb, take}
use Prim.Native.Char.{code}
use Rattle.octets.specs.Ascii.{ascii}
use Rattle.octets.specs.Decimal.{decimal}
use Rattle.form.specs.Regex.{judge}
use Rattle.form.specs.Listings.{amount_form}
use Rattle.form.specs.Writing.{into_room}
use Rattle.form.specs.Verdict.{value_by}
use Rattle.form.specs.Writing.{Written}
use Rattle.form.specs.declared.Unwritten.TheVariants.{NotInForm}
use Rattle.amount.specs.declared.Amount.{Amount}
use Rattle.std.specs.Prelude.{Result, Err}
use Rattle.form.specs.declared.Stop.{Stop}

-- the characters before the point, or all where there is none
abbrev pub before_point : List ℕ → List ℕ
before_point [] = []
before_point (c ∷ cs) = cond (eqb c (code ".")) [] (c ∷ before_point cs)

-- the characters after the point
abbrev pub after_point : List ℕ → List ℕ
after_point [] = []
after_point (c ∷ cs) = cond (eqb c (code ".")) cs (after_point cs)

-- 01: "The value is counted in ten-thousandths": the digits before the point are units, those after it count as four
abbrev pub ten_thousandths : List ℕ → ℕ
ten_thousandths s = decimal (before_point s) * 10000 + decimal (take 4 (after_point s ++ ascii "0000"))

-- 01: "held as whole units and a remainder 0 to 9,999"
abbrev pub amount_of : ℕ → Amount
amount_of v = record { units = v / 10000; remainder = v % 10000 }

abbrev pub AmountRead : Type 0
AmountRead = Result Amount Stop

unfoldable pub read_amount : List ℕ → AmountRead
read_amount s = value_by (judge amount_form s) (amount_of (ten_thousandths s))

-- the digit d
abbrev pub digit : ℕ → ℕ
digit d = code "0" + d

-- n < 10 ^ k in at most k digits, with no 0 in front
unfoldable pub whole_text : ℕ → ℕ → List ℕ
whole_text zero n = []
whole_text (suc k) n = cond (ltb n 10) (digit n ∷ []) (whole_text k (n / 10) ++ (digit (n % 10) ∷ []))

-- p of 10 ^ k parts in at most k places after the point, until nothing is left: the last digit is not 0
unfoldable pub places : ℕ → ℕ → List ℕ
places zero p = []
places (suc k) p = cond (eqb p 0) [] (digit (p / 10 ^ k) ∷ places k (p % 10 ^ k))

-- the point and the places after it, if there are any
unfoldable pub fraction_text : ℕ → List ℕ
fraction_text p = cond (eqb p 0) [] (code "." ∷ places 4 p)

-- 01: "`0` or a digit 1 to 9 followed by digits, at most 18 in all; then perhaps a point and one to four digits, the last not 0"
unfoldable pub amount_text : Amount → List ℕ
amount_text a = whole_text 18 a.units ++ fraction_text a.remainder

-- 01, "Writers": "1 for an amount or id that no text reads to .. 23"
unfoldable pub write_amount : Amount → ℕ → Written
write_amount a room = cond (leb (10 ^ 18) a.units || leb (10 ^ 4) a.remainder) (Err NotInForm) (into_room (amount_text a) room)
