-- The 64 letters of base64url and their values (RFC 4648, section 5, table 2).
use Rattle.std.specs.Prelude.{ℕ, suc, List, [], ◌∷◌, Bool, cond, eqb, ltb, get_or}
use Rattle.octets.specs.Ascii.{ascii}
use Rattle.octets.specs.Build.{build}

-- 01: "A-Z a-z 0-9 - _", in the order of their values
unfoldable pub alphabet : List ℕ
alphabet = ascii "ABCDEFGHIJKLMNOPQRSTUVWXYZabcdefghijklmnopqrstuvwxyz0123456789-_"

-- the letter of a value below 64
unfoldable pub letter_of : ℕ → ℕ
letter_of v = get_or alphabet v 0

-- the place of c among these letters, of which the first has the place v; 255, the refuse mark, where c is none of them
unfoldable pub place_from : ℕ → ℕ → List ℕ → ℕ
place_from c v [] = 255
place_from c v (l ∷ ls) = cond (eqb c l) v (place_from c (suc v) ls)

-- the value of a character: its place in the alphabet
unfoldable pub value_of : ℕ → ℕ
value_of c = place_from c 0 alphabet

-- c is a letter
abbrev pub is_letter : ℕ → Bool
is_letter c = ltb (value_of c) 64

-- 01: "Characters are judged by one reading table over all 256 byte values"
unfoldable pub reading_table : List ℕ
reading_table = build 256 value_of
