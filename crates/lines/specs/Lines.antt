-- How a line is built (01, "A program over the library": "a word and its fields, single spaces, newline"). A line is its bytes without
-- the newline.
use Rattle.std.specs.Prelude.{ℕ, Bool, true, false, cond, not, ◌&&◌, ◌||◌, List, [], ◌∷◌, eqb, leb, length}
use Rattle.std.specs.List.{position_or_len}
use Prim.Native.Char.{code}

-- where the first such byte of a text is; the text's length where it has none
abbrev pub index_of : ℕ → List ℕ → ℕ
index_of b s = position_or_len (λ c. eqb c b) s

abbrev pub is_space : ℕ → Bool
is_space c = eqb c (code " ")

abbrev pub is_empty : List ℕ → Bool
is_empty [] = true
is_empty (c ∷ s) = false

abbrev pub starts_with_space : List ℕ → Bool
starts_with_space [] = false
starts_with_space (c ∷ s) = is_space c

unfoldable pub ends_with_space : List ℕ → Bool
ends_with_space [] = false
ends_with_space (c ∷ []) = is_space c
ends_with_space (c ∷ d ∷ s) = ends_with_space (d ∷ s)

unfoldable pub two_spaces_in_a_row : List ℕ → Bool
two_spaces_in_a_row [] = false
two_spaces_in_a_row (c ∷ []) = false
two_spaces_in_a_row (c ∷ d ∷ s) = (is_space c && is_space d) || two_spaces_in_a_row (d ∷ s)

-- a byte more at the front of the first piece
abbrev pub grown : ℕ → List (List ℕ) → List (List ℕ)
grown c [] = (c ∷ []) ∷ []
grown c (p ∷ ps) = (c ∷ p) ∷ ps

-- a text cut at every byte b; every other byte may stand in a piece
unfoldable pub cut_at : ℕ → List ℕ → List (List ℕ)
cut_at b [] = [] ∷ []
cut_at b (c ∷ s) = cond (eqb c b) ([] ∷ cut_at b s) (grown c (cut_at b s))

-- the pieces of a line
abbrev pub pieces : List ℕ → List (List ℕ)
pieces s = cut_at (code " ") s

-- the longest call is a PREPARE: its word and eight fields
abbrev pub most_words : ℕ
most_words = 9

unfoldable pub well_built : List ℕ → Bool
well_built s =
    not (is_empty s)
    && (not (starts_with_space s)
    && (not (ends_with_space s)
    && (not (two_spaces_in_a_row s)
    && leb (length (pieces s)) most_words)))

-- the word and the fields of a line that is well built; none of any other
unfoldable pub words_of : List ℕ → List (List ℕ)
words_of s = cond (well_built s) (pieces s) []
