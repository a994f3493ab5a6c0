-- What `array::from_fn` makes, where each call gives a function's value and leaves the closure as it was.
use mathlib.Core.Path.{◌≡◌, sym, ◌∙◌}
use mathlib.Core.List.{List}
use Prim.Native.Nat.{ℕ, zero, suc, ◌+◌, ◌≤◌, ◌<◌}
use native.Mathlib.Decide.{dec_le}
use native.Mathlib.Omega.{arith}
use lib.ListN.{length, get_or}
use lib.Seq.{take_all}
use denote.Param.Members.{Mut}
use Rattle.std.specs.Array.{IsFromFnResultFrom}
use Rattle.std.specs.Fn.{Called}
use Rattle.octets.specs.Build.{build}
use Rattle.octets.proofs.Built.{build-all}

module _ {F B : Type 0} (g : Mut F (ℕ × Unit {0}) B) (p : F) (f : ℕ → B) (d : B) (m : ℕ)
    (calls : (i : ℕ) (y : B) (q : F) → i < m → Called g p (i, tt) y q → (q ≡ p) × (y ≡ f i)) where
  made_from : (ys : List B) (i n : ℕ) → i + n ≤ m → IsFromFnResultFrom g p ys i n → (k : ℕ) → i ≤ k → k < i + n → f k ≡ get_or ys k d
  made_from ys i zero b h k low high = absurd (omega arith)
  made_from ys i (suc n) b h k low high =
      let c = calls i h.1 h.0 (omega arith) h.3 in elim (dec_le k i) [
        | yes e ↦ let here : k ≡ i = omega arith in rw here (sym c.1 ∙ sym (h.2.1 d))
        | no l ↦ made_from ys (i + 1) n (omega arith) (rw c.0 at h.4) k (omega arith) (omega arith)
      ]

  pub made : (ys : List B) → length ys ≡ m → IsFromFnResultFrom g p ys 0 m → ys ≡ build m f
  made ys l h =
      sym (take_all m ys (omega arith)) ∙ sym (build-all f d ys (λ k b. made_from ys 0 m (omega arith) h k (omega arith) (omega arith)) m (omega arith))
