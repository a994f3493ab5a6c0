-- The pass over the open book: what is known of the first slots, and how it comes to what the book holds.
use Prim.Native.Nat.{ℕ, ◌+◌, ◌*◌, ◌<◌, ◌≤◌}
use mathlib.Core.Path.{◌≡◌, refl, sym, ◌∙◌}
use mathlib.Core.Bool.{Bool, true, false, cond, ◌&&◌}
use mathlib.Core.List.{List, [], ◌∷◌}
use native.Mathlib.Omega.{arith}
use lib.ListN.{length, take, get_or}
use lib.Seq.{take_all}
use mir.Val.{bool_byte}
use borrow.Author.Tests.{le-leb, lt-leb}
use Rattle.std.specs.Prelude.{Some, None}
use Rattle.std.specs.List.{list_all, fold}
use Rattle.octets.specs.Lists.{all, count, sum}
use Rattle.octets.proofs.Tests.{and-true, and-false, and_assoc}
use Rattle.octets.proofs.Walk.{all_more, all_fails, sum_more, sum-part, count_more}
use Rattle.record.specs.Layout.{Row, num, amount_of, remainder_field, units_field}
use Rattle.shape.specs.Reading.{is_taken}
use Rattle.shape.specs.Shape.{open_ok}
use Rattle.shape.specs.Scan.{held_in_book, most_reserved}

-- what is known of the first k slots
pub record Counted (accounts : ℕ) (rs : List Row) (k taken reserved : ℕ) : Type 0 where
  pub each : all (open_ok accounts) (take k rs) ≡ true
  pub counts : taken ≡ count is_taken (take k rs)
  pub sums : reserved ≡ sum amount_of (take k rs)
  pub few : taken ≤ k
  pub most : reserved ≤ most_reserved

-- the library's `all`, and its `fold` of a test
module _ {A : Type 0} (q : A → Bool) where
  pub all_by_list : (xs : List A) → all q xs ≡ list_all q xs
  all_by_list [] = refl
  all_by_list (x ∷ xs) = rw (all_by_list xs)

  fold_from : (b : Bool) (xs : List A) → fold (λ right x. right && q x) b xs ≡ b && all q xs
  fold_from b [] = sym (and-true b)
  fold_from b (x ∷ xs) = fold_from (b && q x) xs ∙ and_assoc b (q x) (all q xs)

  pub fold_all : (xs : List A) → fold (λ right x. right && q x) true xs ≡ all q xs
  fold_all xs = fold_from true xs

-- a test as a number
pub number_of_test : (b : Bool) → bool_byte b ≡ cond b 1 0
number_of_test true = refl
number_of_test false = refl

pub one-or-none : (b : Bool) → cond b 1 0 ≤ 1
one-or-none true = omega arith
one-or-none false = omega arith

module _ (accounts : ℕ) (rs : List Row) where
  pub count-start : Counted accounts rs 0 0 0
  count-start = record { each = refl; counts = refl; sums = refl; few = omega arith; most = omega arith }

  pub book_wrong : (k : ℕ) → k < length rs → open_ok accounts (get_or rs k []) ≡ false → None ≡ held_in_book accounts rs
  unfolding held_in_book
  book_wrong k h e = rw (all_fails (open_ok accounts) rs k [] e h)

  book_over : most_reserved < sum amount_of rs → None ≡ held_in_book accounts rs
  unfolding held_in_book
  book_over h = rw (lt-leb (sum amount_of rs) most_reserved h, and-false (all (open_ok accounts) rs))

  module _ (k taken reserved : ℕ) (c : Counted accounts rs k taken reserved) where
    module _ (units remainder : ℕ) (h : k < length rs) (f : units ≡ num units_field (get_or rs k []))
        (g : remainder ≡ num remainder_field (get_or rs k [])) where
      reserved_more : reserved + (units * 10000 + remainder) ≡ sum amount_of (take (k + 1) rs)
      reserved_more = rw (c.sums, f, g) (sym (sum_more amount_of rs k [] h))

      pub count_over : most_reserved < reserved + (units * 10000 + remainder) → None ≡ held_in_book accounts rs
      count_over l = book_over (omega (arith, reserved_more, sum-part amount_of rs (k + 1)))

      pub count-step : (t : ℕ) → open_ok accounts (get_or rs k []) ≡ true → t ≡ cond (is_taken (get_or rs k [])) 1 0 →
          reserved + (units * 10000 + remainder) ≤ most_reserved →
          Counted accounts rs (k + 1) (taken + t) (reserved + (units * 10000 + remainder))
      count-step t ok e l = record {
        each = all_more (open_ok accounts) rs k [] h ∙ rw (c.each, ok);
        counts = rw (c.counts, e) (sym (count_more is_taken rs k [] h));
        sums = reserved_more;
        few = omega (arith, c.few, one-or-none (is_taken (get_or rs k [])));
        most = l;
      }

    pub count-done : length rs ≤ k → Some (record { taken = taken; reserved = reserved }) ≡ held_in_book accounts rs
    unfolding held_in_book
    count-done h =
        let whole : take k rs ≡ rs = take_all k rs h in
        let e : all (open_ok accounts) rs ≡ true = rw whole at c.each in
        let l : sum amount_of rs ≤ most_reserved = rw (← whole, ← c.sums) c.most in
        rw (e, le-leb (sum amount_of rs) most_reserved l, c.counts, c.sums, whole)
