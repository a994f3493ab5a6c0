-- What the inner functions of the readers find in a text; no public promise cites these.
use Rattle.std.specs.Prelude.{ℕ, zero, suc, ◌+◌, ◌-◌, ◌≡◌, List, [], ◌∷◌, Bool, true, cond, ◌&&◌, ltb, eqb, length, get_or, drop, Option, Some, None}
use Prim.Native.Char.{code}
use Rattle.base64url.specs.Letters.{value_of, is_letter}
use Rattle.base64url.specs.Condition.{three_bytes}

-- four characters are all letters
abbrev pub four_letters : List ℕ → Bool
four_letters f = is_letter (get_or f 0 0) && is_letter (get_or f 1 0) && is_letter (get_or f 2 0) && is_letter (get_or f 3 0)

-- the three bytes of four characters, by their values
abbrev pub bytes_of_four : List ℕ → List ℕ
bytes_of_four f = three_bytes (value_of (get_or f 0 0)) (value_of (get_or f 1 0)) (value_of (get_or f 2 0)) (value_of (get_or f 3 0))

-- the three bytes of four characters, if they are letters
unfoldable pub group_of : List ℕ → Option (List ℕ)
group_of f = cond (four_letters f) (Some (bytes_of_four f)) None

-- all characters are letters
unfoldable pub all_letters : List ℕ → Bool
all_letters [] = true
all_letters (c ∷ cs) = is_letter c && all_letters cs

-- how many letters a text begins with, counted to n
unfoldable pub letters_first : ℕ → List ℕ → ℕ
letters_first zero s = 0
letters_first (suc n) [] = 0
letters_first (suc n) (c ∷ cs) = cond (is_letter c) (suc (letters_first n cs)) 0

-- i letters passed, and those to come, counted to n in all
abbrev pub Passed : ℕ → List ℕ → ℕ → ℕ → Type 0
Passed n s whole i = i + letters_first (n - i) (drop i s) ≡ whole

-- a `=` stands at i, within the limit
abbrev pub pad_at : List ℕ → ℕ → Bool
pad_at s i = ltb i (length s) && (ltb i 32768 && eqb (get_or s i 0) (code "="))

-- the place past it
unfoldable pub past_pad : List ℕ → ℕ → ℕ
past_pad s i = cond (pad_at s i) (i + 1) i
