-- The record of an id: where the search finds it is what the book holds under it.
use Prim.Native.Nat.{ℕ, ◌<◌, ◌≤◌}
use mathlib.Core.Path.{◌≡◌, refl, ap, ◌∙◌}
use mathlib.Core.Bool.{Bool, true, false, cond}
use mathlib.Core.List.{List, [], ◌∷◌, ◌++◌}
use mathlib.Core.Option.{Option, none, some}
use Rattle.std.specs.Prelude.{Some, None}
use native.Mathlib.Omega.{arith}
use lib.Dec.{ltb}
use borrow.Author.Tests.{ltb-true, ltb-false}
use Rattle.octets.specs.Lists.{first, index}
use Rattle.octets.proofs.Search.{first_at, first-none}
use Rattle.record.specs.Layout.{Row}
use Rattle.record.specs.Rows.{rows, row, holds}
use Rattle.record.proofs.Rows.{length-rows, rows_at}
use Rattle.shape.specs.Reading.{Book, open_rows, ended_rows, held_row}
use Rattle.book.specs.declared.Place.TheVariants.{Opened, Ended}
use Rattle.book.specs.Step.{slot_of, place_of, where_is}
use Rattle.book.specs.Inner.{row_at}

abbrev or_else : {A : Type 0} → Option A → Option A → Option A
or_else none y = y
or_else (some x) y = some x

first-append : {A : Type 0} (q : A → Bool) (xs ys : List A) → first q (xs ++ ys) ≡ or_else (first q xs) (first q ys)
first-append q [] ys = refl
first-append q (x ∷ xs) ys = go (q x) (first-append q xs ys)
  where
    go : (t : Bool) → first q (xs ++ ys) ≡ or_else (first q xs) (first q ys) →
        cond t (some x) (first q (xs ++ ys)) ≡ or_else (cond t (some x) (first q xs)) (first q ys)
    go true e = refl
    go false e = e

-- the first of n rows that passes, by its place
by_place : (q : Row → Bool) (n : ℕ) (b : List ℕ) →
    first q (rows n b) ≡ cond (ltb (index q (rows n b)) n) (some (row b (index q (rows n b)))) none
by_place q n b = go (ltb (index q (rows n b)) n) refl
  where
    go : (t : Bool) → ltb (index q (rows n b)) n ≡ t → first q (rows n b) ≡ cond t (some (row b (index q (rows n b)))) none
    go true e =
        let h : index q (rows n b) < n = ltb-true _ n e in
        let l = length-rows n b in
        first_at q (rows n b) [] (omega arith) ∙ ap some (rows_at n (index q (rows n b)) b [] h)
    go false e =
        let h : n ≤ index q (rows n b) = ltb-false _ n e in
        let l = length-rows n b in
        first-none q (rows n b) (omega arith)

-- what a book holds under an id is the record at the place that the search gives
pub held_at : (b : Book) (id : List ℕ) → held_row b id ≡ row_at b (where_is b id)
held_at b id =
    first-append (holds id) (open_rows b) (ended_rows b)
    ∙ rw (by_place (holds id) b.head.slots b.opened, by_place (holds id) b.head.finished b.ended)
    (go (ltb (slot_of b id) b.head.slots) (ltb (place_of b id) b.head.finished))
  where
    go : (s t : Bool) → or_else (cond s (some (row b.opened (slot_of b id))) none) (cond t (some (row b.ended (place_of b id))) none)
        ≡ row_at b (cond s (Some (Opened (slot_of b id))) (cond t (Some (Ended (place_of b id))) None))
    go true t = refl
    go false true = refl
    go false false = refl

-- a place that it gives is in its book
opened_by : (s t : Bool) (j i k : ℕ) → cond s (Some (Opened j)) (cond t (Some (Ended i)) None) ≡ Some (Opened k) → (s ≡ true) × (j ≡ k)
opened_by true t j i k e = (refl, cc)
opened_by false true j i k e = absurd (cc)
opened_by false false j i k e = absurd (cc)

pub opened_at : (b : Book) (id : List ℕ) (k : ℕ) → where_is b id ≡ Some (Opened k) → (k ≡ slot_of b id) × (k < b.head.slots)
opened_at b id k e =
    let f = opened_by (ltb (slot_of b id) b.head.slots) (ltb (place_of b id) b.head.finished) (slot_of b id) (place_of b id) k e in
    let h : slot_of b id < b.head.slots = ltb-true _ _ f.0 in
    (omega (arith, f.1), omega (arith, f.1))

ended_by : (s t : Bool) (j i k : ℕ) → cond s (Some (Opened j)) (cond t (Some (Ended i)) None) ≡ Some (Ended k) → (t ≡ true) × (i ≡ k)
ended_by true t j i k e = absurd (cc)
ended_by false true j i k e = (refl, cc)
ended_by false false j i k e = absurd (cc)

pub ended_at_lem : (b : Book) (id : List ℕ) (k : ℕ) → where_is b id ≡ Some (Ended k) → k < b.head.finished
ended_at_lem b id k e =
    let f = ended_by (ltb (slot_of b id) b.head.slots) (ltb (place_of b id) b.head.finished) (slot_of b id) (place_of b id) k e in
    let h : place_of b id < b.head.finished = ltb-true _ _ f.0 in
    omega (arith, f.1)
