-- A line is well built where none of its pieces is empty and they are not too many.
use Prim.Native.Nat.{ℕ}
use mathlib.Core.Path.{◌≡◌, refl, ap, sym, ◌∙◌}
use mathlib.Core.Bool.{Bool, true, false, cond, not, ◌&&◌, ◌||◌}
use mathlib.Core.List.{List, [], ◌∷◌}
use lib.Dec.{leb}
use lib.ListN.{length}
use Rattle.octets.proofs.Tests.{and_assoc}
use Rattle.lines.specs.Lines.{is_space, is_empty, starts_with_space, ends_with_space, two_spaces_in_a_row}
use Rattle.lines.specs.Lines.{grown, cut_at, pieces, most_words, well_built}

-- no piece is empty
abbrev pub full : List (List ℕ) → Bool
full [] = true
full ([] ∷ ps) = false
full ((c ∷ p) ∷ ps) = full ps

abbrev rest : List (List ℕ) → List (List ℕ)
rest [] = []
rest (p ∷ ps) = ps

grown-full : (c : ℕ) (ps : List (List ℕ)) → full (grown c ps) ≡ full (rest (grown c ps))
grown-full c [] = refl
grown-full c (p ∷ ps) = refl

grown-rest : (c : ℕ) (ps : List (List ℕ)) → full (rest (grown c ps)) ≡ full (rest ps)
grown-rest c [] = refl
grown-rest c (p ∷ ps) = refl

-- the first piece is empty where the line starts with a space
from_first : (c : ℕ) (s : List ℕ) → full (pieces (c ∷ s)) ≡ not (is_space c) && full (rest (pieces (c ∷ s)))
unfolding cut_at
from_first c s = by (is_space c)
  where
    cut : Bool → List (List ℕ)
    cut b = cond b ([] ∷ pieces s) (grown c (pieces s))

    by : (b : Bool) → full (cut b) ≡ not b && full (rest (cut b))
    by true = refl
    by false = grown-full c (pieces s)

neither : (d e t : Bool) → not d && (not e && not t) ≡ not e && not (d || t)
neither true true t = refl
neither true false t = refl
neither false e t = refl

-- a later piece is empty where the line ends with a space or has two in a row
from_second : (s : List ℕ) → full (rest (pieces s)) ≡ not (ends_with_space s) && not (two_spaces_in_a_row s)
unfolding cut_at ends_with_space two_spaces_in_a_row
from_second [] = refl
from_second (c ∷ []) = by (is_space c)
  where
    by : (b : Bool) → full (rest (cond b ([] ∷ [] ∷ []) (grown c ([] ∷ [])))) ≡ not b && true
    by true = refl
    by false = refl
from_second (c ∷ d ∷ s) = by (is_space c) (from_second (d ∷ s))
  where
    by : (b : Bool) → full (rest (pieces (d ∷ s))) ≡ not (ends_with_space (d ∷ s)) && not (two_spaces_in_a_row (d ∷ s))
        → full (rest (cond b ([] ∷ pieces (d ∷ s)) (grown c (pieces (d ∷ s)))))
        ≡ not (ends_with_space (d ∷ s)) && not ((b && is_space d) || two_spaces_in_a_row (d ∷ s))
    by true h =
        from_first d s ∙ ap (λ (t : Bool). not (is_space d) && t) h
        ∙ neither (is_space d) (ends_with_space (d ∷ s)) (two_spaces_in_a_row (d ∷ s))
    by false h = grown-rest c (pieces (d ∷ s)) ∙ h

full_words : (s : List ℕ) →
    full (pieces s) ≡ not (is_empty s) && (not (starts_with_space s) && (not (ends_with_space s) && not (two_spaces_in_a_row s)))
unfolding cut_at
full_words [] = refl
full_words (c ∷ s) = from_first c s ∙ ap (λ (t : Bool). not (is_space c) && t) (from_second (c ∷ s))

pub built_full : (s : List ℕ) → well_built s ≡ full (pieces s) && leb (length (pieces s)) most_words
unfolding well_built
built_full s = sym (ap (λ (t : Bool). t && leb (length (pieces s)) most_words) (full_words s) ∙ simp and_assoc)
