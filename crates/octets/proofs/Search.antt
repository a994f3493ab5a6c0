-- Searches over a list: how a loop that goes from element to element comes to the whole answer, as no element before k passed, and what
-- an answer says.
use Prim.Native.Nat.{ℕ, zero, suc, ◌+◌, ◌≤◌, ◌<◌}
use mathlib.Core.Path.{◌≡◌, refl, sym, ◌∙◌}
use mathlib.Core.Bool.{Bool, true, false, cond}
use mathlib.Core.List.{List, [], ◌∷◌}
use mathlib.Core.Option.{none, some}
use native.Mathlib.Omega.{arith}
use native.Mathlib.Numerals.{add-one}
use lib.ListN.{length, get_or, drop, drop_of_length-le}
use lib.Seq.{drop-cons}
use Rattle.octets.specs.Lists.{index, first}

-- of the place: the whole answer is k and the answer on the rest
module _ {A : Type 0} (q : A → Bool) (xs : List A) (k : ℕ) (inv : index q xs ≡ k + index q (drop k xs)) where
  index-next : (d : A) → k < length xs → index q (drop k xs) ≡ cond (q (get_or xs k d)) 0 (suc (index q (drop (k + 1) xs)))
  index-next d h = rw (add-one k, drop-cons xs k d h)

  pub index_hit : (d : A) → k < length xs → q (get_or xs k d) ≡ true → k ≡ index q xs
  index_hit d h t = let e : index q (drop k xs) ≡ 0 = index-next d h ∙ (rw t) in omega arith

  pub index_miss : (d : A) → k < length xs → q (get_or xs k d) ≡ false → index q xs ≡ k + 1 + index q (drop (k + 1) xs)
  index_miss d h t = let e : index q (drop k xs) ≡ suc (index q (drop (k + 1) xs)) = index-next d h ∙ (rw t) in omega arith

  pub index-done : length xs ≤ k → k ≡ index q xs
  index-done h = let e : index q (drop k xs) ≡ 0 = rw (drop_of_length-le xs h) in omega arith

-- of the element: the whole answer is the answer on the rest
module _ {A : Type 0} (q : A → Bool) (xs : List A) (k : ℕ) (inv : first q xs ≡ first q (drop k xs)) where
  first_next : (d : A) → k < length xs → first q xs ≡ cond (q (get_or xs k d)) (some (get_or xs k d)) (first q (drop (k + 1) xs))
  first_next d h = inv ∙ (rw (add-one k, drop-cons xs k d h))

  pub first_hit : (d : A) → k < length xs → q (get_or xs k d) ≡ true → some (get_or xs k d) ≡ first q xs
  first_hit d h t = sym (first_next d h ∙ (rw t))

  pub first_miss : (d : A) → k < length xs → q (get_or xs k d) ≡ false → first q xs ≡ first q (drop (k + 1) xs)
  first_miss d h t = first_next d h ∙ (rw t)

  pub first_done : length xs ≤ k → none ≡ first q xs
  first_done h = sym (inv ∙ (rw (drop_of_length-le xs h)))

module _ {A : Type 0} (q : A → Bool) where
  -- the place that was found: it passes, and none before it does
  pub index-le : (xs : List A) → index q xs ≤ length xs
  index-le [] = omega arith
  index-le (x ∷ xs) = go (q x) (index-le xs)
    where
      go : (t : Bool) → index q xs ≤ length xs → cond t 0 (suc (index q xs)) ≤ suc (length xs)
      go true h = omega arith
      go false h = omega arith

  pub index-passes : (xs : List A) (d : A) → index q xs < length xs → q (get_or xs (index q xs) d) ≡ true
  index-passes [] d h = absurd (omega arith)
  index-passes (x ∷ xs) d h = go (q x) refl h (index-passes xs d)
    where
      go : (t : Bool) → q x ≡ t → cond t 0 (suc (index q xs)) < suc (length xs) →
          (index q xs < length xs → q (get_or xs (index q xs) d) ≡ true) → q (get_or (x ∷ xs) (cond t 0 (suc (index q xs))) d) ≡ true
      go true e h more = e
      go false e h more = more (omega arith)

  pub index-first : (xs : List A) (d : A) (j : ℕ) → j < index q xs → q (get_or xs j d) ≡ false
  index-first [] d j h = absurd (omega arith)
  index-first (x ∷ xs) d j h = go (q x) refl j h (index-first xs d)
    where
      go : (t : Bool) → q x ≡ t → (j : ℕ) → j < cond t 0 (suc (index q xs)) →
          ((i : ℕ) → i < index q xs → q (get_or xs i d) ≡ false) → q (get_or (x ∷ xs) j d) ≡ false
      go true e j h more = absurd (omega arith)
      go false e zero h more = e
      go false e (suc j) h more = more j (omega arith)

  -- the element found stands at the place found, and none is found where the place is the length
  pub first_at : (xs : List A) (d : A) → index q xs < length xs → first q xs ≡ some (get_or xs (index q xs) d)
  first_at [] d h = absurd (omega arith)
  first_at (x ∷ xs) d h = by (first_at xs d) (q x) h
    where
      by : (index q xs < length xs → first q xs ≡ some (get_or xs (index q xs) d)) → (b : Bool)
          → cond b 0 (suc (index q xs)) < suc (length xs)
          → cond b (some x) (first q xs) ≡ some (get_or (x ∷ xs) (cond b 0 (suc (index q xs))) d)
      by ih true h = refl
      by ih false h = ih (omega arith)

  pub first-none : (xs : List A) → length xs ≤ index q xs → first q xs ≡ none
  first-none [] h = refl
  first-none (x ∷ xs) h = by (first-none xs) (q x) h
    where
      by : (length xs ≤ index q xs → first q xs ≡ none) → (b : Bool) → suc (length xs) ≤ cond b 0 (suc (index q xs))
          → cond b (some x) (first q xs) ≡ none
      by ih true h = absurd (omega arith)
      by ih false h = ih (omega arith)
