-- Parts of a list of bytes: read, compared, zero.
use Rattle.std.specs.Prelude.{ℕ, List, [], ◌∷◌, Bool, true, false, ◌&&◌, eqb, take, drop, replicate}

-- w bytes from a place on
abbrev pub part : List ℕ → ℕ → ℕ → List ℕ
part l at w = take w (drop at l)

-- 01: "compared byte for byte"
unfoldable pub same : List ℕ → List ℕ → Bool
same [] [] = true
same [] (y ∷ ys) = false
same (x ∷ xs) [] = false
same (x ∷ xs) (y ∷ ys) = eqb x y && same xs ys

unfoldable pub zeros : ℕ → List ℕ
zeros n = replicate n 0

unfoldable pub all_zero : List ℕ → Bool
all_zero [] = true
all_zero (x ∷ xs) = eqb x 0 && all_zero xs
