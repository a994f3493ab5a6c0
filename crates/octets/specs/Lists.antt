-- Searches, tests and sums over a list.
use Rattle.std.specs.Prelude.{ℕ, suc, ◌+◌, List, [], ◌∷◌, Bool, true, cond, ◌&&◌}
use Rattle.std.proofs.Math.Option.{Option, none, some}

module _ {A : Type 0} where
  -- the first element that passes the test; its place, which is the length where there is none
  abbrev pub first : (A → Bool) → List A → Option A
  first q [] = none
  first q (x ∷ xs) = cond (q x) (some x) (first q xs)

  abbrev pub index : (A → Bool) → List A → ℕ
  index q [] = 0
  index q (x ∷ xs) = cond (q x) 0 (suc (index q xs))

  abbrev pub all : (A → Bool) → List A → Bool
  all q [] = true
  all q (x ∷ xs) = q x && all q xs

  -- the elements that pass the test, and how many they are
  abbrev pub keep : (A → Bool) → List A → List A
  keep q [] = []
  keep q (x ∷ xs) = cond (q x) (x ∷ keep q xs) (keep q xs)

  abbrev pub count : (A → Bool) → List A → ℕ
  count q [] = 0
  count q (x ∷ xs) = cond (q x) 1 0 + count q xs

  abbrev pub sum : (A → ℕ) → List A → ℕ
  sum f [] = 0
  sum f (x ∷ xs) = f x + sum f xs
