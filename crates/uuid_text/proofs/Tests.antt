-- Tests put together, and what each part says.
use mathlib.Core.Path.{◌≡◌, refl, subst⁻¹}
use mathlib.Core.Bool.{Bool, true, false, cond}
use Prim.Native.Nat.{ℕ}
use native.Mathlib.Omega.{arith}
use lib.Dec.{T}

pub only_if : (t r : Bool) → cond t r false ≡ true → (t ≡ true) × (r ≡ true)
only_if true r e = (refl, e)
only_if false r e = absurd (let z : ◌≡◌ {A = ℕ} 0 1 = cc in omega arith)

pub to_test : {a : Bool} → a ≡ true → T a
to_test e = subst⁻¹ T e tt
