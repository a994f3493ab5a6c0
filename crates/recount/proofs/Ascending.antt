-- Ascending numbers: a list of numbers is put in order in one way only, whatever order it had.
use Prim.Native.Nat.{ℕ, ◌+◌, ◌≤◌, ◌<◌}
use mathlib.Core.Path.{◌≡◌, refl, sym, ap}
use mathlib.Core.Bool.{Bool, true, false, cond}
use mathlib.Core.List.{List, [], ◌∷◌, map}
use native.Mathlib.Omega.{arith}
use lib.Dec.{leb}
use borrow.Author.Tests.{leb-true, leb-false, le-leb, lt-leb}
use Rattle.octets.specs.Lists.{keep, count, sum}
use Rattle.ledger.specs.Laws.{insert_number, ascending}
use Rattle.recount.proofs.Sums.{one_if, SumsAgree, count_agree}

-- no number is below n, and none is below the one before it
abbrev pub From : ℕ → List ℕ → Type 0
From n [] = Unit {0}
From n (x ∷ xs) = (n ≤ x) × From x xs

from-lower : (m n : ℕ) (xs : List ℕ) → m ≤ n → From n xs → From m xs
from-lower m n [] h a = tt
from-lower m n (x ∷ xs) h a = (omega (arith, a.0), a.1)

-- a part of an ascending list ascends
pub from-keep : {A : Type 0} (f : A → ℕ) (q : A → Bool) (n : ℕ) (xs : List A) → From n (map f xs) → From n (map f (keep q xs))
from-keep f q n [] a = tt
from-keep f q n (x ∷ xs) a = go (from-keep f q (f x) xs a.1) (q x)
  where
    go : From (f x) (map f (keep q xs)) → (t : Bool) → From n (map f (cond t (x ∷ keep q xs) (keep q xs)))
    go ih true = (a.0, ih)
    go ih false = from-lower n (f x) (map f (keep q xs)) a.0 ih

from-insert : (m n : ℕ) (xs : List ℕ) → m ≤ n → From m xs → From m (insert_number n xs)
from-insert m n [] h a = (h, tt)
from-insert m n (x ∷ xs) h a = go (from-insert x n xs) (leb n x) refl
  where
    go : (x ≤ n → From x xs → From x (insert_number n xs)) → (t : Bool) → leb n x ≡ t →
        From m (cond t (n ∷ x ∷ xs) (x ∷ insert_number n xs))
    go ih true e = (h, (leb-true n x e, a.1))
    go ih false e = (a.0, ih (omega (arith, leb-false n x e)) a.1)

pub from-ascending : (xs : List ℕ) → From 0 (ascending xs)
unfolding ascending
from-ascending [] = tt
from-ascending (x ∷ xs) = from-insert 0 x (ascending xs) (omega arith) (from-ascending xs)

sum-insert : (f : ℕ → ℕ) (n : ℕ) (xs : List ℕ) → sum f (insert_number n xs) ≡ f n + sum f xs
sum-insert f n [] = refl
sum-insert f n (x ∷ xs) = go (sum-insert f n xs) (leb n x)
  where
    go : sum f (insert_number n xs) ≡ f n + sum f xs → (t : Bool) →
        sum f (cond t (n ∷ x ∷ xs) (x ∷ insert_number n xs)) ≡ f n + (f x + sum f xs)
    go ih true = refl
    go ih false = omega arith

pub sum-ascending : (f : ℕ → ℕ) (xs : List ℕ) → sum f (ascending xs) ≡ sum f xs
unfolding ascending
sum-ascending f [] = refl
sum-ascending f (x ∷ xs) = omega (arith, sum-insert f x (ascending xs), sum-ascending f xs)

-- how many are at most n: none of those that begin above it, and one at least where the first is
none_below : (m n : ℕ) (xs : List ℕ) → n < m → From m xs → count (λ x. leb x n) xs ≡ 0
none_below m n [] h a = refl
none_below m n (x ∷ xs) h a =
    omega (arith, ap one_if (lt-leb x n (omega (arith, a.0))), none_below x n xs (omega (arith, a.0)) a.1)

first_least : (m n x y : ℕ) (xs ys : List ℕ) → From m (x ∷ xs) → From n (y ∷ ys) → SumsAgree (x ∷ xs) (y ∷ ys) → y ≤ x
first_least m n x y xs ys a b s = go (leb y x) refl
  where
    go : (t : Bool) → leb y x ≡ t → y ≤ x
    go true e = leb-true y x e
    go false e =
        absurd (omega (
          arith,
          none_below y x (y ∷ ys) (leb-false y x e) (omega arith, b.1),
          ap one_if (le-leb x x (omega arith)),
          count_agree (λ z. leb z x) (x ∷ xs) (y ∷ ys) s,
        ))

-- two ascending lists of the same numbers are one list
pub from_unique : (m n : ℕ) (xs ys : List ℕ) → From m xs → From n ys → SumsAgree xs ys → xs ≡ ys
from_unique m n [] [] a b s = refl
from_unique m n [] (y ∷ ys) a b s = absurd (omega (arith, s (λ x. 1)))
from_unique m n (x ∷ xs) [] a b s = absurd (omega (arith, s (λ x. 1)))
from_unique m n (x ∷ xs) (y ∷ ys) a b s =
    let e : x ≡ y = omega (arith, first_least m n x y xs ys a b s, first_least n m y x ys xs b a (λ f. sym (s f))) in
    let r : xs ≡ ys = from_unique x y xs ys a.1 b.1 (λ f. omega (arith, s f, ap f e)) in
    cc
