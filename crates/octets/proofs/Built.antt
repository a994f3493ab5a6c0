-- Laws of `build`: how a loop that stores one element after the other comes to the whole list.
use mathlib.Core.Path.{◌≡◌, refl, sym, ◌∙◌}
use mathlib.Core.List.{List, [], ◌∷◌}
use mathlib.Core.Logic.{⊎_elim}
use Prim.Native.Nat.{ℕ, zero, suc, ◌+◌, ◌≤◌, ◌<◌}
use native.Mathlib.Nat.{le_of_suc-le-suc, eq-or-lt_of_le}
use native.Mathlib.Numerals.{add-one}
use native.Mathlib.Omega.{arith}
use lib.ListN.{length, take, get_or, set, length-append, get_or-append}
use lib.Seq.{take-suc, take-suc-set, take_all, get_or_at}
use Rattle.octets.specs.Build.{build}

module _ {A : Type 0} (f : ℕ → A) where
  pub length-build : (n : ℕ) → length (build n f) ≡ n
  unfolding build
  length-build zero = refl
  length-build (suc n) = simp (length-append, length-build n) (omega arith)

  -- into a list of which the first i are written
  pub build-step : (x : List A) (i : ℕ) (v : A) → take i x ≡ build i f → v ≡ f i → i < length x →
      take (i + 1) (set x i v) ≡ build (i + 1) f
  unfolding build
  build-step x i v e g h = rw (add-one i, take-suc-set, e, g)

  -- all are written
  pub build-end : (n : ℕ) (x : List A) (i : ℕ) → take i x ≡ build i f → length x ≡ n → i ≡ n → x ≡ build n f
  build-end n x i e l a =
      let b : length x ≤ n = omega arith in
      sym (take_all n x b) ∙ (rw a at e)

  -- a list whose elements are those of the function
  pub build-all : (d : A) (xs : List A) → ((k : ℕ) → k < length xs → f k ≡ get_or xs k d) →
      (n : ℕ) → n ≤ length xs → build n f ≡ take n xs
  unfolding build
  build-all d xs e zero h = refl
  build-all d xs e (suc n) h = rw (build-all d xs e n (omega arith), e n h, take-suc xs n d h)

  pub built_at : (d : A) (n i : ℕ) → i < n → get_or (build n f) i d ≡ f i
  unfolding build
  built_at d zero i h = absurd (omega arith)
  built_at d (suc n) i h = ⊎_elim
      (λ e. rw e (get_or_at (build n f) (f n) [] d n (length-build n)))
      (λ l.
      let k : i < length (build n f) = omega (arith, length-build n) in
      get_or-append (build n f) (f n ∷ []) d i k ∙ built_at d n i l) (eq-or-lt_of_le (le_of_suc-le-suc h))

-- of numbers
pub build_at : (f : ℕ → ℕ) (n i : ℕ) → i < n → get_or (build n f) i 0 ≡ f i
build_at f n i h = built_at f 0 n i h
