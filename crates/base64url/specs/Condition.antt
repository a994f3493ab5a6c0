-- The 32 bytes of a condition or fulfilment, and their text of 43 letters (01, "Condition and fulfilment"; RFC 4648, sections 4 and 5).
use Rattle.std.specs.Prelude.{ℕ, ◌+◌, ◌*◌, ◌/◌, ◌%◌, List, [], ◌∷◌, ◌++◌, map, cond, eqb, length, Result, Err}
use Rattle.form.specs.Regex.{judge}
use Rattle.form.specs.Listings.{condition_form}
use Rattle.form.specs.Writing.{into_room}
use Rattle.form.specs.Verdict.{value_by}
use Rattle.form.specs.declared.Stop.{Stop}
use Rattle.form.specs.Writing.{Written}
use Rattle.form.specs.declared.Unwritten.TheVariants.{NotInForm}
use Rattle.base64url.specs.Letters.{letter_of, value_of}

-- RFC 4648, section 4: four values of 6 bits, one after the other, are three bytes
abbrev pub three_bytes : ℕ → ℕ → ℕ → ℕ → List ℕ
three_bytes a b c d = (a * 4 + b / 16) ∷ (b % 16 * 16 + c / 4) ∷ (c % 4 * 64 + d) ∷ []

-- at the end three values are two bytes, and two are one: the bits that fill no byte are dropped
-- (01: "The last character's two low bits are dropped")
unfoldable pub bytes_of : List ℕ → List ℕ
bytes_of (a ∷ b ∷ c ∷ d ∷ more) = three_bytes a b c d ++ bytes_of more
bytes_of (a ∷ b ∷ c ∷ []) = (a * 4 + b / 16) ∷ (b % 16 * 16 + c / 4) ∷ []
bytes_of (a ∷ b ∷ []) = (a * 4 + b / 16) ∷ []
bytes_of (a ∷ []) = []
bytes_of [] = []

-- the other way: three bytes are four values
abbrev pub four_values : ℕ → ℕ → ℕ → List ℕ
four_values x y z = (x / 4) ∷ (x % 4 * 16 + y / 16) ∷ (y % 16 * 4 + z / 64) ∷ (z % 64) ∷ []

-- at the end two bytes are three values, and one is two: the bits that no byte fills are zero
-- (01: "The writer sets them to zero")
abbrev pub last_values : ℕ → ℕ → List ℕ
last_values x y = (x / 4) ∷ (x % 4 * 16 + y / 16) ∷ (y % 16 * 4) ∷ []

unfoldable pub values_of : List ℕ → List ℕ
values_of (x ∷ y ∷ z ∷ more) = four_values x y z ++ values_of more
values_of (x ∷ y ∷ []) = last_values x y
values_of (x ∷ []) = (x / 4) ∷ (x % 4 * 16) ∷ []
values_of [] = []

-- 01: "43 characters A-Z a-z 0-9 - _, base64url without padding, 32 bytes"
unfoldable pub read_condition : List ℕ → Result (List ℕ) Stop
read_condition s = value_by (judge condition_form s) (bytes_of (map value_of s))

unfoldable pub condition_text : List ℕ → List ℕ
condition_text b = map letter_of (values_of b)

-- 01, "Writers": "1 for .. a condition not of 32 bytes"; "23"
unfoldable pub write_condition : List ℕ → ℕ → Written
write_condition b room = cond (eqb (length b) 32) (into_room (condition_text b) room) (Err NotInForm)
