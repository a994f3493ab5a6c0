-- Lists given by a function of the place.
use Rattle.std.specs.Prelude.{ℕ, zero, suc, List, [], ◌∷◌, ◌++◌}

-- f 0, f 1, .., f (n - 1)
unfoldable pub build : {A : Type 0} → ℕ → (ℕ → A) → List A
build zero f = []
build (suc n) f = build n f ++ (f n ∷ [])
