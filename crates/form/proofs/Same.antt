-- Equality of forms, as a test that computes.
use mathlib.Core.Path.{◌≡◌}
use mathlib.Core.Bool.{Bool, true, false}
use native.Mathlib.Decide.{ℕ_discrete}
use lib.Dec.{T}
use Rattle.form.specs.Regex.{Re, Re-discrete}

abbrev holds : {A : Type 0} → Dec A → Bool
holds (yes a) = true
holds (no f) = false

holds-is : {A : Type 0} (d : Dec A) → T (holds d) → A
holds-is (yes a) t = a
holds-is (no f) t = absurd t

unfoldable pub same : Re → Re → Bool
same p q = holds (Re-discrete ℕ_discrete p q)

pub same-eq : (p q : Re) → T (same p q) → p ≡ q
unfolding same
same-eq p q t = holds-is (Re-discrete ℕ_discrete p q) t
