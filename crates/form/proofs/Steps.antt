-- What is left of a form after a text, and how a verdict is put together from parts of the text.
use mathlib.Core.Path.{◌≡◌, refl, subst⁻¹}
use mathlib.Core.Bool.{Bool, true, false}
use mathlib.Core.List.{List, [], ◌∷◌, ◌++◌}
use Prim.Native.Nat.{ℕ, suc}
use lib.Dec.{T}
use Rattle.octets.proofs.Computed.{both, both_left, both_right}
use Rattle.form.specs.Regex.{Re, alive, deriv, judge_from}
use Rattle.form.specs.Verdict.{of_form}
use Rattle.form.proofs.Same.{same, same-eq}

abbrev pub left : Re → List ℕ → Re
left r [] = r
left r (c ∷ cs) = left (deriv c r) cs

-- the text leads from one form to another, and something goes on at each of its bytes
abbrev pub leads : Re → List ℕ → Re → Bool
leads r [] q = same r q
leads r (c ∷ cs) q = both (alive (deriv c r)) (leads (deriv c r) cs q)

pub is_true : (b : Bool) → T b → b ≡ true
is_true true t = refl
is_true false t = absurd t

-- every text is of the form, whatever was passed before
abbrev pub Ends : Re → List ℕ → Type 0
Ends r s = (n : ℕ) → judge_from r n s ≡ of_form

-- a text that leads to a form, and a rest that is of that form
pub on : (xs ys : List ℕ) (r q : Re) → T (leads r xs q) → Ends q ys → Ends r (xs ++ ys)
on [] ys r q t f n = subst⁻¹ (λ (z : Re). judge_from z n ys ≡ of_form) (same-eq r q t) (f n)
on (c ∷ cs) ys r q t f n =
    rw (is_true (alive (deriv c r)) (both_left (alive (deriv c r)) (leads (deriv c r) cs q) t))
    (on cs ys (deriv c r) q (both_right (alive (deriv c r)) (leads (deriv c r) cs q) t) f (suc n))
