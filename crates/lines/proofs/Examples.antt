-- Lines on both sides of what 01 says of their build.
use mathlib.Core.Path.{◌≡◌, refl}
use mathlib.Core.List.{List, [], ◌∷◌}
use Prim.Native.Nat.{ℕ}
use Rattle.octets.specs.Ascii.{ascii}
use Rattle.lines.specs.Lines.{ends_with_space, two_spaces_in_a_row, cut_at, well_built, words_of}

-- a word, a word and its fields, and nine words
pub a_word : words_of (ascii "TIME") ≡ ascii "TIME" ∷ []
unfolding words_of well_built ends_with_space two_spaces_in_a_row cut_at
a_word = refl

pub a_call : words_of (ascii "JOIN alpha 100") ≡ ascii "JOIN" ∷ ascii "alpha" ∷ ascii "100" ∷ []
unfolding words_of well_built ends_with_space two_spaces_in_a_row cut_at
a_call = refl

pub nine_words : words_of (ascii "a b c d e f g h i")
    ≡ ascii "a" ∷ ascii "b" ∷ ascii "c" ∷ ascii "d" ∷ ascii "e" ∷ ascii "f" ∷ ascii "g" ∷ ascii "h" ∷ ascii "i" ∷ []
unfolding words_of well_built ends_with_space two_spaces_in_a_row cut_at
nine_words = refl

-- a tab is a byte of a field, and so is the return before the newline
pub no_other_space : words_of (ascii "JOIN\ta 1\r") ≡ ascii "JOIN\ta" ∷ ascii "1\r" ∷ []
unfolding words_of well_built ends_with_space two_spaces_in_a_row cut_at
no_other_space = refl

abbrev none : List (List ℕ)
none = []

pub empty_line : words_of (ascii "") ≡ none
unfolding words_of well_built ends_with_space two_spaces_in_a_row cut_at
empty_line = refl

pub a_space : words_of (ascii " ") ≡ none
unfolding words_of well_built ends_with_space two_spaces_in_a_row cut_at
a_space = refl

pub space_first : words_of (ascii " TIME now") ≡ none
unfolding words_of well_built ends_with_space two_spaces_in_a_row cut_at
space_first = refl

pub space_last : words_of (ascii "TIME now ") ≡ none
unfolding words_of well_built ends_with_space two_spaces_in_a_row cut_at
space_last = refl

pub two_spaces : words_of (ascii "TIME  now") ≡ none
unfolding words_of well_built ends_with_space two_spaces_in_a_row cut_at
two_spaces = refl

pub ten_words : words_of (ascii "a b c d e f g h i j") ≡ none
unfolding words_of well_built ends_with_space two_spaces_in_a_row cut_at
ten_words = refl
