-- The 16 bytes of an id, and their text (01, "Id"; listing 14 of 001).
use Rattle.std.specs.Prelude.{ℕ, zero, suc, ◌+◌, ◌-◌, ◌*◌, ◌/◌, ◌%◌, List, [], ◌∷◌, ◌++◌, Bool, false, cond, ◌&&◌, ◌||◌, ltb, leb, eqb, length, get_or, Result, Err, is_ok}
use Prim.Native.Char.{code}
use Rattle.octets.specs.Build.{build}
use Rattle.form.specs.Regex.{judge}
use Rattle.form.specs.Listings.{id_form}
use Rattle.form.specs.Writing.{into_room}
use Rattle.form.specs.Verdict.{value_by}
use Rattle.form.specs.declared.Stop.{Stop}
use Rattle.form.specs.Writing.{Written}
use Rattle.form.specs.declared.Unwritten.TheVariants.{NotInForm}

-- 01: "lower-case hex in groups 8-4-4-4-12": two digits for each byte, and a dash before the bytes 4, 6, 8 and 10
abbrev pub dash_before : ℕ → Bool
dash_before k = eqb k 4 || eqb k 6 || eqb k 8 || eqb k 10

-- the place of byte k's first digit: two places for each byte before it, and one for each dash
abbrev pub place_of : ℕ → ℕ
place_of k = cond (ltb k 4) (2 * k) (cond (ltb k 6) (2 * k + 1) (cond (ltb k 8) (2 * k + 2) (cond (ltb k 10) (2 * k + 3) (2 * k + 4))))

-- the value of a hexadecimal digit, and the digit of a value
abbrev pub hex_value : ℕ → ℕ
hex_value c = cond (ltb c (code "a")) (c - code "0") (c - code "a" + 10)

abbrev pub hex_char : ℕ → ℕ
hex_char n = cond (ltb n 10) (code "0" + n) (code "a" + (n - 10))

-- 01: "Held as 16 bytes"
unfoldable pub byte_at : List ℕ → ℕ → ℕ
byte_at s k = hex_value (get_or s (place_of k) 0) * 16 + hex_value (get_or s (place_of k + 1) 0)

unfoldable pub id_of : List ℕ → List ℕ
id_of s = build 16 (byte_at s)

-- a text of the form has its bytes
unfoldable pub read_id : List ℕ → Result (List ℕ) Stop
read_id s = value_by (judge id_form s) (id_of s)

-- what an array holds after the read that held other bytes before
abbrev pub id_left : List ℕ → List ℕ → List ℕ
id_left s old = cond (is_ok (judge id_form s)) (id_of s) old

-- the text of byte k, of value x, and of all bytes before it
abbrev pub pair_text : ℕ → List ℕ
pair_text x = hex_char (x / 16) ∷ hex_char (x % 16) ∷ []

abbrev pub byte_text : ℕ → ℕ → List ℕ
byte_text k x = cond (dash_before k) (code "-" ∷ pair_text x) (pair_text x)

unfoldable pub text_before : ℕ → List ℕ → List ℕ
text_before zero b = []
text_before (suc k) b = text_before k b ++ byte_text k (get_or b k 0)

unfoldable pub id_text : List ℕ → List ℕ
id_text b = text_before 16 b

-- 01: "third group starting with 1 to 5, fourth with 8, 9, a or b": the first digits of the bytes 6 and 8
abbrev pub in_form : List ℕ → Bool
in_form b =
    cond (eqb (length b) 16) (leb 1 (get_or b 6 0 / 16) && leb (get_or b 6 0 / 16) 5 && leb 8 (get_or b 8 0 / 16) && leb (get_or b 8 0 / 16) 11)
    false

-- 01, "Writers": "1 for an amount or id that no text reads to"; "23"
unfoldable pub write_id : List ℕ → ℕ → Written
write_id b room = cond (in_form b) (into_room (id_text b) room) (Err NotInForm)

-- the characters 0 to 9 and a to f
abbrev pub is_hex : ℕ → Bool
is_hex c = (leb (code "0") c && leb c (code "9")) || (leb (code "a") c && leb c (code "f"))
