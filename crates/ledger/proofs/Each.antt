-- Every element of a list: what holds of each of them is enough for sums, counts, maps and searches to agree.
use Prim.Native.Nat.{ℕ, suc, ◌+◌, ◌<◌}
use mathlib.Core.Path.{◌≡◌, refl, ap, ap₂, sym, subst}
use mathlib.Core.Bool.{Bool, true, false, cond, ◌&&◌}
use mathlib.Core.List.{List, [], ◌∷◌, ◌++◌, map}
use mathlib.Core.Option.{Option, some}
use native.Mathlib.Omega.{arith}
use lib.ListN.{length, get_or}
use Rattle.octets.specs.Lists.{first, keep, sum}
use Rattle.record.specs.Layout.{Row}
use Rattle.record.specs.Rows.{rows, row}
use Rattle.record.proofs.Rows.{length-rows, rows_at}
use Rattle.shape.specs.Reading.{map_some}

pub data Each {A : Type 0} (P : A → Type 0) : List A → Type 0 where
  end : Each P []
  also : {x : A} {xs : List A} → P x → Each P xs → Each P (x ∷ xs)

module _ {A : Type 0} (P : A → Type 0) where
  each_at : (xs : List A) (d : A) → ((k : ℕ) → k < length xs → P (get_or xs k d)) → Each P xs
  each_at [] d h = end
  each_at (x ∷ xs) d h = also (h 0 (omega arith)) (each_at xs d (λ k i. h (suc k) (omega arith)))

  pub each_append : {xs ys : List A} → Each P xs → Each P ys → Each P (xs ++ ys)
  each_append end e = e
  each_append (also p f) e = also p (each_append f e)

  -- what holds of each that passes holds of each that is kept
  pub each-kept : (q : A → Bool) (xs : List A) → Each (λ (x : A). q x ≡ true → P x) xs → Each P (keep q xs)
  each-kept q [] end = end
  each-kept q (x ∷ xs) (also p f) = by (q x) refl (each-kept q xs f)
    where
      by : (t : Bool) → q x ≡ t → Each P (keep q xs) → Each P (cond t (x ∷ keep q xs) (keep q xs))
      by true e more = also (p e) more
      by false e more = more

-- what follows of one follows of each
pub each_so : {A : Type 0} {P : A → Type 0} (Q : A → Type 0) {xs : List A} → ((x : A) → P x → Q x) → Each P xs → Each Q xs
each_so Q h end = end
each_so Q h (also {x = x} p more) = also (h x p) (each_so Q h more)

-- the records of a book, one by one
pub each_row : (P : Row → Type 0) (n : ℕ) (b : List ℕ) → ((k : ℕ) → k < n → P (row b k)) → Each P (rows n b)
each_row P n b h = each_at P (rows n b) [] (λ k i.
    let l : k < n = omega (arith, length-rows n b) in
    subst P (sym (rows_at n k b [] l)) (h k l))

-- a map
module _ {A B : Type 0} where
  pub map_each : (f g : A → B) (xs : List A) → Each (λ (x : A). f x ≡ g x) xs → map f xs ≡ map g xs
  map_each f g [] end = refl
  map_each f g (x ∷ xs) (also e more) = ap₂ (λ (y : B) (ys : List B). y ∷ ys) e (map_each f g xs more)

  pub map-append : (f : A → B) (xs ys : List A) → map f (xs ++ ys) ≡ map f xs ++ map f ys
  map-append f [] ys = refl
  map-append f (x ∷ xs) ys = ap (λ (l : List B). f x ∷ l) (map-append f xs ys)

-- what changes no element changes no list
pub map_same : {A : Type 0} (f : A → A) (xs : List A) → ((x : A) → f x ≡ x) → map f xs ≡ xs
map_same f [] e = refl
map_same f (x ∷ xs) e = ap₂ (λ (y : _) (ys : List _). y ∷ ys) (e x) (map_same f xs e)

-- the elements that are kept
module _ {A : Type 0} where
  pub keep_append : (q : A → Bool) (xs ys : List A) → keep q (xs ++ ys) ≡ keep q xs ++ keep q ys
  keep_append q [] ys = refl
  keep_append q (x ∷ xs) ys = by (q x) (keep_append q xs ys)
    where
      by : (t : Bool) → keep q (xs ++ ys) ≡ keep q xs ++ keep q ys →
          cond t (x ∷ keep q (xs ++ ys)) (keep q (xs ++ ys)) ≡ cond t (x ∷ keep q xs) (keep q xs) ++ keep q ys
      by true e = ap (λ (l : List A). x ∷ l) e
      by false e = e

  pub keep-none : (q : A → Bool) (xs : List A) → Each (λ (x : A). q x ≡ false) xs → keep q xs ≡ []
  keep-none q [] end = refl
  keep-none q (x ∷ xs) (also e more) = rw e (keep-none q xs more)

  pub kept-none : (q : A → Bool) (xs : List A) → keep q xs ≡ [] → Each (λ (x : A). q x ≡ false) xs
  kept-none q [] e = end
  kept-none q (x ∷ xs) e = by (q x) refl e (kept-none q xs)
    where
      by : (t : Bool) → q x ≡ t → cond t (x ∷ keep q xs) (keep q xs) ≡ [] → (keep q xs ≡ [] → Each (λ (x : A). q x ≡ false) xs) →
          Each (λ (x : A). q x ≡ false) (x ∷ xs)
      by true p e more = let z : ◌≡◌ {A = ℕ} 0 1 = cc in absurd (omega arith)
      by false p e more = also p (more e)

  pub keep_all : (q : A → Bool) (xs : List A) → Each (λ (x : A). q x ≡ true) xs → keep q xs ≡ xs
  keep_all q [] end = refl
  keep_all q (x ∷ xs) (also e more) = rw e (ap (λ (l : List A). x ∷ l) (keep_all q xs more))

  -- two tests, one after the other
  pub keep-both : (p q : A → Bool) (xs : List A) → keep q (keep p xs) ≡ keep (λ (x : A). p x && q x) xs
  keep-both p q [] = refl
  keep-both p q (x ∷ xs) = by (p x) (keep-both p q xs)
    where
      by : (t : Bool) → keep q (keep p xs) ≡ keep (λ (x : A). p x && q x) xs →
          keep q (cond t (x ∷ keep p xs) (keep p xs))
          ≡ cond (t && q x) (x ∷ keep (λ (x : A). p x && q x) xs) (keep (λ (x : A). p x && q x) xs)
      by true e = ap (λ (l : List A). cond (q x) (x ∷ l) l) e
      by false e = e

  pub first-keep : (p q : A → Bool) (xs : List A) → first q (keep p xs) ≡ first (λ (x : A). p x && q x) xs
  first-keep p q [] = refl
  first-keep p q (x ∷ xs) = by (p x) (first-keep p q xs)
    where
      by : (t : Bool) → first q (keep p xs) ≡ first (λ (x : A). p x && q x) xs →
          first q (cond t (x ∷ keep p xs) (keep p xs)) ≡ cond (t && q x) (some x) (first (λ (x : A). p x && q x) xs)
      by true e = ap (λ (o : Option A). cond (q x) (some x) o) e
      by false e = e

-- after a map: kept, found, counted
module _ {A B : Type 0} (f : A → B) where
  pub keep-map : (q : B → Bool) (xs : List A) → keep q (map f xs) ≡ map f (keep (λ (x : A). q (f x)) xs)
  keep-map q [] = refl
  keep-map q (x ∷ xs) = by (q (f x)) (keep-map q xs)
    where
      by : (t : Bool) → keep q (map f xs) ≡ map f (keep (λ (x : A). q (f x)) xs) →
          cond t (f x ∷ keep q (map f xs)) (keep q (map f xs))
          ≡ map f (cond t (x ∷ keep (λ (x : A). q (f x)) xs) (keep (λ (x : A). q (f x)) xs))
      by true e = ap (λ (l : List B). f x ∷ l) e
      by false e = e

  pub first-map : (q : B → Bool) (xs : List A) → first q (map f xs) ≡ map_some f (first (λ (x : A). q (f x)) xs)
  first-map q [] = refl
  first-map q (x ∷ xs) = by (q (f x)) (first-map q xs)
    where
      by : (t : Bool) → first q (map f xs) ≡ map_some f (first (λ (x : A). q (f x)) xs) →
          cond t (some (f x)) (first q (map f xs)) ≡ map_some f (cond t (some x) (first (λ (x : A). q (f x)) xs))
      by true e = refl
      by false e = e

  pub sum-map : (g : B → ℕ) (xs : List A) → sum g (map f xs) ≡ sum (λ (x : A). g (f x)) xs
  sum-map g [] = refl
  sum-map g (x ∷ xs) = omega (arith, sum-map g xs)

-- sums
module _ {A : Type 0} where
  pub sum-each : (f g : A → ℕ) (xs : List A) → Each (λ (x : A). f x ≡ g x) xs → sum f xs ≡ sum g xs
  sum-each f g [] end = refl
  sum-each f g (x ∷ xs) (also e more) = omega (arith, e, sum-each f g xs more)

  pub sum-none : (f : A → ℕ) (xs : List A) → Each (λ (x : A). f x ≡ 0) xs → sum f xs ≡ 0
  sum-none f [] end = refl
  sum-none f (x ∷ xs) (also e more) = omega (arith, e, sum-none f xs more)

  pub sum_ones : (f : A → ℕ) (xs : List A) → Each (λ (x : A). f x ≡ 1) xs → sum f xs ≡ length xs
  sum_ones f [] end = refl
  sum_ones f (x ∷ xs) (also e more) = omega (arith, e, sum_ones f xs more)

  pub sum-keep : (q : A → Bool) (f : A → ℕ) (xs : List A) → sum f (keep q xs) ≡ sum (λ (x : A). cond (q x) (f x) 0) xs
  sum-keep q f [] = refl
  sum-keep q f (x ∷ xs) = by (q x) (sum-keep q f xs)
    where
      by : (t : Bool) → sum f (keep q xs) ≡ sum (λ (x : A). cond (q x) (f x) 0) xs →
          sum f (cond t (x ∷ keep q xs) (keep q xs)) ≡ cond t (f x) 0 + sum (λ (x : A). cond (q x) (f x) 0) xs
      by true e = omega (arith, e)
      by false e = omega (arith, e)
