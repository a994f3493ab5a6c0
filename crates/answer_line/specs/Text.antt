-- The printed answer to a line (01: "It prints number, code, mark, and for time as many of the list's numbers as the mark says"), in
-- decimal, with single spaces and a newline.
use Rattle.std.specs.Prelude.{ℕ, zero, suc, ◌*◌, ◌/◌, min, List, [], ◌∷◌, ◌++◌, length}
use Prim.Native.Char.{code as letter}
use Rattle.octets.specs.Numbers.{number as number_in}
use Rattle.octets.specs.Parts.{part}
use Rattle.amount.specs.Amount.{whole_text}

-- a number below 10 ^ 18, with no 0 in front
abbrev pub decimal_text : ℕ → List ℕ
decimal_text n = whole_text 18 n

abbrev pub spaced : ℕ → List ℕ
spaced n = letter " " ∷ decimal_text n

-- "a place of the time list is 4 bytes (a shorter rest is none)": number k, and the first n, each after a space
abbrev pub number_at : List ℕ → ℕ → ℕ
number_at list k = number_in (part list (k * 4) 4)

unfoldable pub list_text : List ℕ → ℕ → List ℕ
list_text list zero = []
list_text list (suc n) = list_text list n ++ spaced (number_at list n)

-- listed: how many of the list's numbers are printed; no more than it has places
unfoldable pub answer_text : ℕ → ℕ → ℕ → List ℕ → ℕ → List ℕ
answer_text number code mark list listed =
    decimal_text number ++ spaced code ++ spaced mark ++ list_text list (min listed (length list / 4)) ++ (letter "\n" ∷ [])
