-- A book of the shape has the facts that the calls count on, and a book with these facts is of the shape.
use Prim.Native.Nat.{ℕ, ◌+◌, ◌*◌, ◌<◌, ◌≤◌, ◌^◌}
use mathlib.Core.Path.{◌≡◌, ap, sym, ◌∙◌}
use mathlib.Core.Bool.{Bool, true, false, not, ◌&&◌}
use mathlib.Core.List.{List, []}
use native.Mathlib.Omega.{arith}
use lib.Dec.{leb}
use lib.ListN.{length, length-take, drop, get_or}
use lib.IntN.{ℤ, pos, negsuc}
use lib.Signed.{le_z, mag}
use borrow.Author.Tests.{leb-true, le-leb}
use Rattle.octets.specs.Lists.{all, sum}
use Rattle.octets.specs.Parts.{all_zero}
use Rattle.octets.specs.Integers.{up, dn}
use Rattle.octets.proofs.Integers.{same, le_split}
use Rattle.octets.proofs.Tests.{both}
use Rattle.octets.proofs.Walk.{all-at, all-each, sum_at, count_some}
use Rattle.amount.specs.declared.Amount.{Amount}
use Rattle.account.specs.declared.Account.{Account}
use Rattle.account.specs.Position.{Room, InRange}
use Rattle.account.specs.Head.{accounts_of, account_at, no_account, Named}
use Rattle.record.specs.Layout.{Row, num, amount_of, is_free, remainder_field, units_field}
use Rattle.record.specs.Rows.{rows, row}
use Rattle.record.proofs.Rows.{length-rows, rows_at}
use Rattle.rules.specs.Rules.{highest_cap, sameℤ}
use Rattle.shape.specs.Reading.{Book, names_of, open_rows, ended_rows, open_count, is_taken}
use Rattle.shape.specs.Shape.{shape, lengths_ok, account_ok, none_twice, open_ok, ended_ok, total}
use Rattle.shape.specs.Scan.{accounts_ok, open_book_ok, ended_book_ok, below_of}
use Rattle.shape.specs.Sound.{SoundRecord, SoundLengths, Sound}
use Rattle.shape.proofs.Facts.{account_sound, account_ok_lem, position_most, lengths_sound, lengths_ok_lem}
use Rattle.shape.proofs.Facts.{slot_sound, slot_ok, ended_sound, ended_ok_lem}
use Rattle.shape.proofs.Names.{length_accounts, account_at_lem}
use Rattle.shape.proofs.Bounds.{same_yes, total_split, most_above}
use Rattle.shape.proofs.Together.{together, judged, judged_at, few_accounts}

-- the test of equality
same_equal : (z w : ℤ) → sameℤ z w ≡ true → z ≡ w
same_equal z w e =
    let p = both (le_z z w) (le_z w z) e in
    same z w (omega (arith, le_split z w p.0, le_split w z p.1))

equal_same : (z : ℤ) (n : ℕ) → z ≡ pos n → sameℤ z (pos n) ≡ true
equal_same z n e = same_yes z n (omega (arith, ap up e, ap dn e))

-- the rows of a book, one by one
module _ (q : Row → Bool) (n : ℕ) (book : List ℕ) where
  row-passes : all q (rows n book) ≡ true → (k : ℕ) → k < n → q (row book k) ≡ true
  row-passes e k h = ap q (sym (rows_at n k book [] h)) ∙ all-at q (rows n book) k [] e (omega (arith, length-rows n book))

  rows_pass : ((k : ℕ) → k < n → q (row book k) ≡ true) → all q (rows n book) ≡ true
  rows_pass e = all-each q (rows n book) [] (λ k h.
      let l : k < n = omega (arith, length-rows n book) in
      ap q (rows_at n k book [] l) ∙ e k l)

-- no position is so low that an amount could not be taken from it within 64 bits: all sum to no less than 0, and none is above 10^17 units
mag_by : (z : ℤ) (n : ℕ) → up z < n → dn z ≤ n → mag z < n
mag_by (pos a) n h k = h
mag_by (negsuc a) n h k = omega arith

pub units_bound : (xs : List Account) (n k : ℕ) → all account_ok xs ≡ true → length xs ≤ 32 → total xs ≡ pos n → k < length xs →
    mag (get_or xs k no_account).position.units < 2 ^ 62
units_bound xs n k e few t h =
    let a = get_or xs k no_account in
    let low : sum below_of xs * 10000 ≤ 32 * highest_cap = omega (arith, total_split xs, most_above xs e, ap up t, ap dn t) in
    mag_by a.position.units (2 ^ 62) (omega (arith, position_most a (account_sound a (all-at account_ok xs k no_account e h))))
    (omega (arith, sum_at below_of xs k no_account h))

module _ (b : Book) where
  -- the test passes, and so the facts hold
  pub sound : length b.head.accounts ≡ 32 → shape b ≡ true → Sound b
  unfolding accounts_ok open_book_ok ended_book_ok
  sound long e =
      let h = b.head in
      let slots = all (open_ok h.count) (open_rows b) in
      let places = all (ended_ok h.count) (ended_rows b) in
      let zero = all_zero (drop (h.finished * 160) b.ended) in
      let room = leb (open_count b + h.finished) h.places in
      let balanced = sameℤ (total (accounts_of h)) (pos (sum amount_of (open_rows b))) in
      let p1 = both (lengths_ok b) (accounts_ok h && (open_book_ok h b.opened && ended_book_ok h.count h.finished b.ended))
      (sym (together b) ∙ e) in
      let p2 = both (accounts_ok h) (open_book_ok h b.opened && ended_book_ok h.count h.finished b.ended) p1.1 in
      let p3 = both (slots && (room && balanced)) (places && zero) p2.1 in
      let p4 = both slots (room && balanced) p3.0 in
      let p5 = both room balanced p4.1 in
      let p6 = both places zero p3.1 in
      let j = judged h p2.0 in
      let names = both (all account_ok (accounts_of h)) (none_twice (names_of h))
      (both (leb h.count 32) (all account_ok (accounts_of h) && none_twice (names_of h)) p2.0).1 in
      let balance = same_equal (total (accounts_of h)) (pos (sum amount_of (open_rows b))) p5.1 in
      record {
        lengths = lengths_sound b p1.0;
        few = j.few;
        account = judged_at h long j;
        once = names.1;
        slot = λ k l. slot_sound h.count (row b.opened k) (row-passes (open_ok h.count) h.slots b.opened p4.0 k l);
        place = λ k l. ended_sound h.count (row b.ended k) (row-passes (ended_ok h.count) h.finished b.ended p6.0 k l);
        rest = p6.1;
        room = leb-true (open_count b + h.finished) h.places p5.0;
        balance = balance;
        units = λ k l. rw (account_at_lem h k l) at (units_bound (accounts_of h) (sum amount_of (open_rows b)) k j.each
            (few_accounts h j.few) balance (omega (arith, length_accounts h long j.few)));
      }

  module _ (s : Sound b) where
    accounts_pass : all account_ok (accounts_of b.head) ≡ true
    accounts_pass = all-each account_ok (accounts_of b.head) no_account (λ k l.
        let i : k < b.head.count = omega (arith, length-take b.head.count b.head.accounts) in
        ap account_ok (account_at_lem b.head k i) ∙ account_ok_lem (account_at b.head k) (s.account k i))

    pub shape_of : shape b ≡ true
    unfolding shape
    shape_of =
        let h = b.head in
        rw (
          lengths_ok_lem b s.lengths,
          le-leb h.count 32 s.few,
          accounts_pass,
          s.once,
          rows_pass (open_ok h.count) h.slots b.opened (λ k l. slot_ok h.count (row b.opened k) (s.slot k l)),
          rows_pass (ended_ok h.count) h.finished b.ended (λ k l. ended_ok_lem h.count (row b.ended k) (s.place k l)),
          s.rest,
          le-leb (open_count b + h.finished) h.places s.room,
          equal_same (total (accounts_of h)) (sum amount_of (open_rows b)) s.balance,
        )

    -- what the functions below the calls require
    pub sound_named : Named b.head
    sound_named = record { few = s.few; short = λ k l. (s.account k l).short }

    pub sound_room : (k : ℕ) → k < b.head.count → Room (account_at b.head k).position
    sound_room k l = record { units = s.units k l; remainder = (s.account k l).remainder }

    -- a slot that is taken has a place left in the finished book
    pub place-left : (k : ℕ) → k < b.head.slots → is_free (row b.opened k) ≡ false → b.head.finished < b.head.places
    place-left k l e =
        let rs = open_rows b in
        let t : is_taken (get_or rs k []) ≡ true = ap is_taken (rows_at b.head.slots k b.opened [] l) ∙ ap not e in
        omega (arith, s.room, count_some is_taken rs k [] (omega (arith, length-rows b.head.slots b.opened)) t)

pub sound_amount : (accounts : ℕ) (r : Row) (a : Amount) → SoundRecord accounts r →
    a.units ≡ num units_field r → a.remainder ≡ num remainder_field r → InRange a
sound_amount accounts r a s e f = record { units = rw e s.units; remainder = rw f s.remainder }

-- books as long as they were, of as many slots and places
pub lengths_kept : (b c : Book) → SoundLengths b → c.head.slots ≡ b.head.slots → c.head.places ≡ b.head.places →
    length c.opened ≡ length b.opened → length c.ended ≡ length b.ended → SoundLengths c
lengths_kept b c s e f o n = record {
  opened = omega (arith, e, o, s.opened);
  some_slots = omega (arith, e, s.some_slots);
  few_slots = omega (arith, e, s.few_slots);
  ended = omega (arith, f, n, s.ended);
  some_places = omega (arith, f, s.some_places);
  few_places = omega (arith, f, s.few_places);
}
