-- A freshly opened book is of the shape: every slot is zero, so it is free and has no amount; and there are no accounts.
use Prim.Native.Nat.{ℕ, suc, ◌+◌, ◌*◌, ◌/◌, ◌%◌, ◌≤◌, ◌<◌}
use mathlib.Core.Path.{◌≡◌, refl, ap, sym, ◌∙◌}
use mathlib.Core.Bool.{Bool, true, false, false≢true, cond, not, ◌&&◌}
use mathlib.Core.List.{List, [], ◌∷◌}
use native.Mathlib.Omega.{arith}
use lib.Dec.{eqb, leb}
use lib.IntN.{pos}
use lib.ListN.{length, get_or}
use borrow.Author.Tests.{leb-true, eqb-true}
use Rattle.octets.specs.Lists.{sum}
use Rattle.octets.specs.Parts.{part, zeros, all_zero}
use Rattle.octets.proofs.Equal.{zeros-zero}
use Rattle.octets.proofs.Stores.{length-zeros}
use Rattle.octets.proofs.Zeros.{part-zeros}
use Rattle.octets.proofs.Tests.{both}
use Rattle.octets.proofs.Walk.{count-sum}
use Rattle.record.proofs.Rows.{rows_at, length-rows}
use Rattle.record.proofs.Fields.{zero-num}
use Rattle.rules.specs.declared.Answer.TheVariants.{Done, BadLengths}
use Rattle.rules.specs.Answers.{is_done}
use Rattle.rules.specs.Calls.{Text}
use Rattle.rules.specs.Rules.{open_rules, length_for}
use Rattle.shape.specs.Reading.{Book, open_rows, open_count, is_taken}
use Rattle.shape.specs.Shape.{shape}
use Rattle.shape.specs.Sound.{Sound, SoundSlot}
use Rattle.shape.proofs.Sound.{shape_of}
use Rattle.open_book.specs.Effect.{fresh_book}
use Rattle.open_book.proofs.Opening.{lengths_ok, few_records}

-- a sum of nothing
sum-none : {A : Type 0} (f : A → ℕ) (xs : List A) (d : A) → ((k : ℕ) → k < length xs → f (get_or xs k d) ≡ 0) → sum f xs ≡ 0
sum-none f [] d e = refl
sum-none f (x ∷ xs) d e = omega (arith, e 0 (omega arith), sum-none f xs d (λ k h. e (suc k) (omega arith)))

-- both books can be shared out into records
module _ (most n : ℕ) (e : length_for most n ≡ true) where
  whole : n / 160 * 160 ≡ n
  whole =
      let z : n % 160 ≡ 0 = eqb-true (n % 160) 0 (both (eqb (n % 160) 0) (leb 1 (n / 160) && leb (n / 160) most) e).0 in
      omega arith

  some_records : 1 ≤ n / 160
  some_records =
      let p = both (eqb (n % 160) 0) (leb 1 (n / 160) && leb (n / 160) most) e in
      leb-true 1 (n / 160) (both (leb 1 (n / 160)) (leb (n / 160) most) p.1).0

  zero_row : (k : ℕ) → k < n / 160 → all_zero (part (zeros n) (k * 160) 160) ≡ true
  zero_row k h = rw (part-zeros n (k * 160) 160 (omega (arith, whole))) (zeros-zero 160)

-- a record of zeros is that of a free slot, without an amount
not-zero : {A : Type 0} (n : ℕ) → n ≡ 0 → eqb n 0 ≡ false → A
not-zero n z e = let f : eqb 0 0 ≡ false = rw z at e in absurd (false≢true (sym f))

free_of : (n : ℕ) → n ≡ 0 → ◌≡◌ {A = ℕ} (cond (not (eqb n 0)) 1 0) 0
free_of n z = rw z

nothing_of : (u m : ℕ) → u ≡ 0 → m ≡ 0 → u * 10000 + m ≡ 0
nothing_of u m e f = omega arith

module _ (r : List ℕ) (z : all_zero r ≡ true) where
  zero-slot : (accounts : ℕ) → SoundSlot accounts r
  zero-slot accounts = record { free = λ e. z; taken = λ e. not-zero _ (zero-num _ r z) e }

module _ (b : Book) (currency instant : Text) (e : lengths_ok b ≡ true) where
  zero_slots : (k : ℕ) → k < length (open_rows (fresh_book b currency instant)) →
      all_zero (get_or (open_rows (fresh_book b currency instant)) k []) ≡ true
  unfolding fresh_book
  zero_slots k h =
      let o = length b.opened in
      let l : k < o / 160 = omega (arith, length-rows (o / 160) (zeros o)) in
      rw (rows_at (o / 160) k (zeros o) [] l)
      (zero_row 1024 o (both (length_for 1024 o) (length_for 65535 (length b.ended)) e).0 k l)

  none_taken : open_count (fresh_book b currency instant) ≡ 0
  none_taken =
      let rs = open_rows (fresh_book b currency instant) in
      count-sum is_taken rs ∙ sum-none (λ (r : List ℕ). cond (is_taken r) 1 0) rs [] (λ k h. free_of _ (zero-num _ _ (zero_slots k h)))

  fresh_sound : Sound (fresh_book b currency instant)
  unfolding fresh_book
  fresh_sound =
      let o = length b.opened in
      let f = length b.ended in
      let p = both (length_for 1024 o) (length_for 65535 f) e in
      let q = few_records b e in
      record {
        lengths = record {
          opened = length-zeros o ∙ sym (whole 1024 o p.0);
          some_slots = some_records 1024 o p.0;
          few_slots = q.0;
          ended = length-zeros f ∙ sym (whole 65535 f p.1);
          some_places = some_records 65535 f p.1;
          few_places = q.1;
        };
        few = omega arith;
        account = λ k h. absurd (omega arith);
        once = refl;
        slot = λ k h. zero-slot _ (zero_row 1024 o p.0 k h) 0;
        place = λ k h. absurd (omega arith);
        rest = zeros-zero f;
        room = omega (arith, none_taken);
        balance = ap pos (sym (sum-none _ (open_rows (fresh_book b currency instant)) [] (λ k h.
            nothing_of _ _ (zero-num _ _ (zero_slots k h)) (zero-num _ _ (zero_slots k h)))));
        units = λ k h. absurd (omega arith);
      }

-- an open that is answered 0 leaves a book of the shape
pub fresh-shape : (b : Book) (currency instant : Text) → is_done (open_rules (length b.opened) (length b.ended)) ≡ true →
    shape (fresh_book b currency instant) ≡ true
fresh-shape b currency instant e = shape_of (fresh_book b currency instant) (fresh_sound b currency instant (by (lengths_ok b) e))
  where
    by : (t : Bool) → is_done (cond (not t) BadLengths Done) ≡ true → t ≡ true
    by true e = refl
    by false e = e
