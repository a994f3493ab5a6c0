-- Lists of which every sum is the same: the counts are, and so is the one element that passes a test. Laws of lists alone.
use Prim.Native.Nat.{ℕ, ◌+◌, ◌≤◌}
use mathlib.Core.Path.{◌≡◌, refl, sym, ap, ◌∙◌}
use mathlib.Core.Bool.{Bool, true, false, cond, not}
use mathlib.Core.List.{List, [], ◌∷◌, ◌++◌, map}
use mathlib.Core.Option.{Option, none, some}
use native.Mathlib.Omega.{arith}
use lib.ListN.{length}
use Rattle.octets.specs.Lists.{first, keep, count, sum, all}
use Rattle.shape.specs.Reading.{map_some}
use Rattle.octets.proofs.Tests.{both}
use Rattle.octets.proofs.Walk.{count-sum}

-- the first of two that is there
abbrev pub either : {A : Type 0} → Option A → Option A → Option A
either none y = y
either (some x) y = some x

-- what a count adds for an element
abbrev pub one_if : Bool → ℕ
one_if t = cond t 1 0

-- two elements that no function to the numbers tells apart are equal: so it is where a test tells equal ones
abbrev pub Told : Type 0 → Type 0
Told A = (x y : A) → ((g : A → ℕ) → g x ≡ g y) → x ≡ y

module _ {A : Type 0} where
  abbrev pub SumsAgree : List A → List A → Type 0
  SumsAgree xs ys = (f : A → ℕ) → sum f xs ≡ sum f ys

  -- a function where a test is passed, and where it is not
  abbrev pub inside : (A → Bool) → (A → ℕ) → A → ℕ
  inside q f x = cond (q x) (f x) 0

  abbrev pub outside : (A → Bool) → (A → ℕ) → A → ℕ
  outside q f x = cond (q x) 0 (f x)

  pub sum_ext : (f g : A → ℕ) → ((x : A) → f x ≡ g x) → (xs : List A) → sum f xs ≡ sum g xs
  sum_ext f g h [] = refl
  sum_ext f g h (x ∷ xs) = omega (arith, h x, sum_ext f g h xs)

  -- the same where each element passes a test
  pub sum-each : (q : A → Bool) (f g : A → ℕ) → ((x : A) → q x ≡ true → f x ≡ g x) → (xs : List A) → all q xs ≡ true → sum f xs ≡ sum g xs
  sum-each q f g h [] e = refl
  sum-each q f g h (x ∷ xs) e =
      let t = both (q x) (all q xs) e in
      omega (arith, h x t.0, sum-each q f g h xs t.1)

  pub sum-le : (f g : A → ℕ) → ((x : A) → f x ≤ g x) → (xs : List A) → sum f xs ≤ sum g xs
  sum-le f g h [] = omega arith
  sum-le f g h (x ∷ xs) = omega (arith, h x, sum-le f g h xs)

  pub sum-add : (f g : A → ℕ) (xs : List A) → sum (λ x. f x + g x) xs ≡ sum f xs + sum g xs
  sum-add f g [] = refl
  sum-add f g (x ∷ xs) = omega (arith, sum-add f g xs)

  pub sum_split : (q : A → Bool) (f : A → ℕ) (xs : List A) → sum f xs ≡ sum (inside q f) xs + sum (outside q f) xs
  sum_split q f [] = refl
  sum_split q f (x ∷ xs) = omega (arith, by (q x) (f x), sum_split q f xs)
    where
      by : (t : Bool) (n : ℕ) → n ≡ cond t n 0 + cond t 0 n
      by true n = omega arith
      by false n = omega arith

  pub sum-keep : (q : A → Bool) (f : A → ℕ) (xs : List A) → sum f (keep q xs) ≡ sum (inside q f) xs
  sum-keep q f [] = refl
  sum-keep q f (x ∷ xs) = go (sum-keep q f xs) (q x)
    where
      go : sum f (keep q xs) ≡ sum (inside q f) xs → (t : Bool) →
          sum f (cond t (x ∷ keep q xs) (keep q xs)) ≡ cond t (f x) 0 + sum (inside q f) xs
      go ih true = omega arith
      go ih false = omega arith

  pub count-not : (q : A → Bool) (xs : List A) → count q xs + count (λ x. not (q x)) xs ≡ length xs
  count-not q [] = refl
  count-not q (x ∷ xs) = omega (arith, by (q x), count-not q xs)
    where
      by : (t : Bool) → cond t 1 0 + cond (not t) 1 0 ≡ 1
      by true = refl
      by false = refl

  pub count_agree : (q : A → Bool) (xs ys : List A) → SumsAgree xs ys → count q xs ≡ count q ys
  count_agree q xs ys s = count-sum q xs ∙ s (λ x. cond (q x) 1 0) ∙ sym (count-sum q ys)

  -- nothing passes, and a sum of what passes is 0
  pub inside-none : (q : A → Bool) (g : A → ℕ) (xs : List A) → count q xs ≡ 0 → sum (inside q g) xs ≡ 0
  inside-none q g [] e = refl
  inside-none q g (x ∷ xs) e = go (inside-none q g xs) (q x) e
    where
      go : (count q xs ≡ 0 → sum (inside q g) xs ≡ 0) → (t : Bool) → cond t 1 0 + count q xs ≡ 0 →
          cond t (g x) 0 + sum (inside q g) xs ≡ 0
      go ih true e = absurd (omega arith)
      go ih false e = omega (arith, ih (omega arith))

  pub first-none : (q : A → Bool) (xs : List A) → first q xs ≡ none → count q xs ≡ 0
  first-none q [] e = refl
  first-none q (x ∷ xs) e = go (first-none q xs) (q x) e
    where
      go : (first q xs ≡ none → count q xs ≡ 0) → (t : Bool) → cond t (some x) (first q xs) ≡ none → cond t 1 0 + count q xs ≡ 0
      go ih true e = let z : ◌≡◌ {A = ℕ} 0 1 = cc in omega arith
      go ih false e = omega (arith, ih e)

  pub first_test : (q : A → Bool) (xs : List A) (t : A) → first q xs ≡ some t → q t ≡ true
  first_test q [] t e = cc
  first_test q (x ∷ xs) t e = go (first_test q xs t) (q x) refl e
    where
      go : (first q xs ≡ some t → q t ≡ true) → (b : Bool) → q x ≡ b → cond b (some x) (first q xs) ≡ some t → q t ≡ true
      go ih true p e = let s : x ≡ t = cc in cc
      go ih false p e = ih e

  pub first_counts : (q : A → Bool) (xs : List A) (t : A) → first q xs ≡ some t → 1 ≤ count q xs
  first_counts q [] t e = let z : ◌≡◌ {A = ℕ} 0 1 = cc in omega arith
  first_counts q (x ∷ xs) t e = go (first_counts q xs t) (q x) e
    where
      go : (first q xs ≡ some t → 1 ≤ count q xs) → (b : Bool) → cond b (some x) (first q xs) ≡ some t → 1 ≤ cond b 1 0 + count q xs
      go ih true e = omega arith
      go ih false e = omega (arith, ih e)

  -- the one that passes is what a sum of what passes is
  pub first_once : (q : A → Bool) (g : A → ℕ) (xs : List A) (t : A) → first q xs ≡ some t → count q xs ≤ 1 → sum (inside q g) xs ≡ g t
  first_once q g [] t e c = let z : ◌≡◌ {A = ℕ} 0 1 = cc in omega arith
  first_once q g (x ∷ xs) t e c = go (first_once q g xs t) (q x) e c
    where
      go : (first q xs ≡ some t → count q xs ≤ 1 → sum (inside q g) xs ≡ g t) → (b : Bool) → cond b (some x) (first q xs) ≡ some t →
          cond b 1 0 + count q xs ≤ 1 → cond b (g x) 0 + sum (inside q g) xs ≡ g t
      go ih true e c =
          let s : x ≡ t = cc in
          omega (arith, ap g s, inside-none q g xs (omega arith))
      go ih false e c = omega (arith, ih e (omega arith))

  pub first-append : (q : A → Bool) (xs ys : List A) → first q (xs ++ ys) ≡ either (first q xs) (first q ys)
  first-append q [] ys = refl
  first-append q (x ∷ xs) ys = go (q x) (first-append q xs ys)
    where
      go : (t : Bool) → first q (xs ++ ys) ≡ either (first q xs) (first q ys) →
          cond t (some x) (first q (xs ++ ys)) ≡ either (cond t (some x) (first q xs)) (first q ys)
      go true e = refl
      go false e = e

  -- the one element that passes is the same in both
  pub first_agree : Told A → (q : A → Bool) (xs ys : List A) → SumsAgree xs ys → count q ys ≤ 1 → first q xs ≡ first q ys
  first_agree told q xs ys s c = go (first q xs) refl (first q ys) refl
    where
      counts : count q xs ≡ count q ys
      counts = count_agree q xs ys s

      go : (a : Option A) → first q xs ≡ a → (b : Option A) → first q ys ≡ b → a ≡ b
      go none e none k = refl
      go none e (some u) k = absurd (omega (arith, counts, first-none q xs e, first_counts q ys u k))
      go (some t) e none k = absurd (omega (arith, counts, first-none q ys k, first_counts q xs t e))
      go (some t) e (some u) k =
          ap some (told t u (λ g. sym (first_once q g xs t e (omega (arith, counts))) ∙ s (inside q g) ∙ first_once q g ys u k c))

  -- a change of the one element that passes
  pub one_changed : (q : A → Bool) (h : A → A) → ((u : A) → q u ≡ false → h u ≡ u) →
      (xs : List A) (t : A) → first q xs ≡ some t → count q xs ≤ 1 →
      (f : A → ℕ) → sum (λ u. f (h u)) xs + f t ≡ sum f xs + f (h t)
  one_changed q h k xs t e c f =
      omega (
        arith,
        sum_split q f xs,
        sum_split q (λ u. f (h u)) xs,
        first_once q f xs t e c,
        first_once q (λ u. f (h u)) xs t e c,
        sum_ext (outside q (λ u. f (h u))) (outside q f) (λ u. go u (q u) refl) xs,
      )
    where
      go : (u : A) (b : Bool) → q u ≡ b → cond b 0 (f (h u)) ≡ cond b 0 (f u)
      go u true p = refl
      go u false p = ap f (k u p)

module _ {A B : Type 0} where
  pub map_ext : (f g : A → B) → ((x : A) → f x ≡ g x) → (xs : List A) → map f xs ≡ map g xs
  map_ext f g h [] = refl
  map_ext f g h (x ∷ xs) = rw (h x, map_ext f g h xs)

  pub sum-map : (f : B → ℕ) (h : A → B) (xs : List A) → sum f (map h xs) ≡ sum (λ x. f (h x)) xs
  sum-map f h [] = refl
  sum-map f h (x ∷ xs) = omega (arith, sum-map f h xs)

  pub first-map : (q : B → Bool) (h : A → B) (xs : List A) → first q (map h xs) ≡ map_some h (first (λ x. q (h x)) xs)
  first-map q h [] = refl
  first-map q h (x ∷ xs) = go (q (h x)) (first-map q h xs)
    where
      go : (t : Bool) → first q (map h xs) ≡ map_some h (first (λ x. q (h x)) xs) →
          cond t (some (h x)) (first q (map h xs)) ≡ map_some h (cond t (some x) (first (λ x. q (h x)) xs))
      go true e = refl
      go false e = e
