-- Walks over a list, a test of all, a sum or a count: the answer on the first elements and on one more, of one element, after one changed.
use Prim.Native.Nat.{ℕ, zero, suc, ◌+◌, ◌≤◌, ◌<◌}
use mathlib.Core.Path.{◌≡◌, refl, ap, sym, ◌∙◌}
use mathlib.Core.Bool.{Bool, true, false, cond, ◌&&◌}
use mathlib.Core.List.{List, [], ◌∷◌, ◌++◌, map}
use native.Mathlib.Omega.{arith}
use native.Mathlib.Numerals.{add-one}
use lib.ListN.{length, take, drop, get_or, set, take-append-drop, length-map}
use lib.Seq.{take-suc}
use Rattle.octets.specs.Lists.{all, count, sum}
use Rattle.octets.proofs.Tests.{and-true, and-false, and_assoc, and_left, and_right}

module _ {A : Type 0} (q : A → Bool) where
  pub all_append : (xs ys : List A) → all q (xs ++ ys) ≡ all q xs && all q ys
  all_append [] ys = refl
  all_append (x ∷ xs) ys = ap (λ (t : Bool). q x && t) (all_append xs ys) ∙ sym (and_assoc (q x) (all q xs) (all q ys))

  pub all_more : (xs : List A) (k : ℕ) (d : A) → k < length xs → all q (take (k + 1) xs) ≡ all q (take k xs) && q (get_or xs k d)
  all_more xs k d h =
      rw (add-one k, take-suc xs k d h) (all_append (take k xs) (get_or xs k d ∷ [])
      ∙ ap (λ (t : Bool). all q (take k xs) && t) (and-true (q (get_or xs k d))))

  pub all-at : (xs : List A) (k : ℕ) (d : A) → all q xs ≡ true → k < length xs → q (get_or xs k d) ≡ true
  all-at [] k d e h = absurd (omega arith)
  all-at (x ∷ xs) zero d e h = and_left (q x) (all q xs) e
  all-at (x ∷ xs) (suc k) d e h = all-at xs k d (and_right (q x) (all q xs) e) (omega arith)

  -- one that fails settles the answer
  pub all_fails : (xs : List A) (k : ℕ) (d : A) → q (get_or xs k d) ≡ false → k < length xs → all q xs ≡ false
  all_fails [] k d e h = absurd (omega arith)
  all_fails (x ∷ xs) zero d e h = rw e
  all_fails (x ∷ xs) (suc k) d e h = rw (all_fails xs k d e (omega arith)) (and-false (q x))

  -- each passes, and so all do
  pub all-each : (xs : List A) (d : A) → ((k : ℕ) → k < length xs → q (get_or xs k d) ≡ true) → all q xs ≡ true
  all-each [] d e = refl
  all-each (x ∷ xs) d e = rw (e 0 (omega arith)) (all-each xs d (λ k h. e (suc k) (omega arith)))

  pub all_set : (xs : List A) (k : ℕ) (y : A) → all q xs ≡ true → q y ≡ true → all q (set xs k y) ≡ true
  all_set [] k y e f = refl
  all_set (x ∷ xs) zero y e f = rw f (and_right (q x) (all q xs) e)
  all_set (x ∷ xs) (suc k) y e f = rw (and_left (q x) (all q xs) e) (all_set xs k y (and_right (q x) (all q xs) e) f)

module _ {A : Type 0} (f : A → ℕ) where
  pub sum-append : (xs ys : List A) → sum f (xs ++ ys) ≡ sum f xs + sum f ys
  sum-append [] ys = omega arith
  sum-append (x ∷ xs) ys = omega (arith, sum-append xs ys)

  pub sum_more : (xs : List A) (k : ℕ) (d : A) → k < length xs → sum f (take (k + 1) xs) ≡ sum f (take k xs) + f (get_or xs k d)
  sum_more xs k d h = rw (add-one k, take-suc xs k d h) (omega (arith, sum-append (take k xs) (get_or xs k d ∷ [])))

  pub sum_at : (xs : List A) (k : ℕ) (d : A) → k < length xs → f (get_or xs k d) ≤ sum f xs
  sum_at [] k d h = absurd (omega arith)
  sum_at (x ∷ xs) zero d h = omega arith
  sum_at (x ∷ xs) (suc k) d h = omega (arith, sum_at xs k d (omega arith))

  -- a sum does not fall
  pub sum-part : (xs : List A) (k : ℕ) → sum f (take k xs) ≤ sum f xs
  sum-part xs k = omega (arith, ap (sum f) (take-append-drop k xs), sum-append (take k xs) (drop k xs))

  pub sum-set : (xs : List A) (k : ℕ) (y d : A) → k < length xs → sum f (set xs k y) + f (get_or xs k d) ≡ sum f xs + f y
  sum-set [] k y d h = absurd (omega arith)
  sum-set (x ∷ xs) zero y d h = omega arith
  sum-set (x ∷ xs) (suc k) y d h = omega (arith, sum-set xs k y d (omega arith))

-- a count is a sum of ones, and so the laws of sums are its laws
module _ {A : Type 0} (q : A → Bool) where
  pub count-sum : (xs : List A) → count q xs ≡ sum (λ (x : A). cond (q x) 1 0) xs
  count-sum [] = refl
  count-sum (x ∷ xs) = ap (λ (n : ℕ). cond (q x) 1 0 + n) (count-sum xs)

  pub count_more : (xs : List A) (k : ℕ) (d : A) → k < length xs →
      count q (take (k + 1) xs) ≡ count q (take k xs) + cond (q (get_or xs k d)) 1 0
  count_more xs k d h =
      count-sum (take (k + 1) xs) ∙ sum_more (λ x. cond (q x) 1 0) xs k d h
      ∙ ap (λ (n : ℕ). n + cond (q (get_or xs k d)) 1 0) (sym (count-sum (take k xs)))

  pub count_some : (xs : List A) (k : ℕ) (d : A) → k < length xs → q (get_or xs k d) ≡ true → 1 ≤ count q xs
  count_some xs k d h e = rw (count-sum xs) (rw e at (sum_at (λ x. cond (q x) 1 0) xs k d h))

  pub count-le : (xs : List A) → count q xs ≤ length xs
  count-le [] = omega arith
  count-le (x ∷ xs) = go (q x) (count-le xs)
    where
      go : (t : Bool) → count q xs ≤ length xs → cond t 1 0 + count q xs ≤ suc (length xs)
      go true h = omega arith
      go false h = omega arith

-- an array is as long as it is held
pub length_unmap : (X Y : Type 0) (f : X → Y) (l : List X) (n : ℕ) → length (map f l) ≡ n → length l ≡ n
length_unmap X Y f l n e = sym (length-map l f) ∙ e
