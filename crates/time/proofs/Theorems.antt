-- What a caller can count on beside the promise of time.
use Prim.Native.Nat.{ℕ, zero, suc, ◌+◌, ◌<◌}
use mathlib.Core.Path.{◌≡◌, refl, sym, ◌∙◌}
use mathlib.Core.Bool.{Bool, true, false, cond}
use mathlib.Core.List.{List}
use native.Mathlib.Omega.{arith}
use lib.IntN.{ℤ}
use lib.ListN.{length}
use Rattle.octets.specs.Lists.{count}
use Rattle.datetime.specs.Instant.{instant_of}
use Rattle.rules.specs.Answers.{is_done}
use Rattle.rules.specs.Calls.{Text, time}
use Rattle.rules.specs.Rules.{answer_to}
use Rattle.shape.specs.Reading.{Book, open_rows, is_due}
use Rattle.shape.specs.Seen.{seen}
use Rattle.shape.specs.Shape.{shape}
use Rattle.shape.specs.Sound.{Sound}
use Rattle.shape.proofs.Sound.{sound, shape_of, lengths_kept}
use Rattle.time.specs.Effect.{TimeOutcome, time_step, places_in, at_time, expired}
use Rattle.time.specs.Sweep.{Lent, lending, turned, swept}
use Rattle.time.proofs.Lowest.{next-found}
use Rattle.time.proofs.Turns.{swept_none, turn_sound, turn-wide, turn-left, turn-swept}

module _ (b : Book) (list : List ℕ) (instant : Text) where
  -- the promise leaves one answer only
  pub one_answer : (x y : TimeOutcome) → x ≡ time_step b list instant → y ≡ time_step b list instant → x ≡ y
  one_answer x y p q = p ∙ sym q

  -- "All but 0 change nothing lent and no state": neither the book nor the list
  pub refused_keeps : is_done (time_step b list instant).outcome.answer ≡ false →
      ((time_step b list instant).outcome.left ≡ b) × ((time_step b list instant).list ≡ list)
  unfolding time_step
  refused_keeps e = (rw e, rw e)

-- a sweep of a book of the shape leaves one in which nothing is due: each turn leaves one, with one record less that is due
swept_sound : (m : ℕ) (t : ℤ) (i : ℕ) (s : Lent) → count (is_due t) (open_rows s.book) ≡ m → Sound s.book →
    length s.book.head.accounts ≡ 32 → Sound (swept t i s).book × (count (is_due t) (open_rows (swept t i s).book) ≡ 0)
swept_sound zero t i s e g wide = rw (swept_none t i s g.lengths.opened e) (g, e)
swept_sound (suc m) t i s e g wide =
    let f = next-found t s.book.opened s.book.head.slots in
    let k = f.slot in
    let some : 0 < count (is_due t) (open_rows s.book) = omega (arith, e) in
    rw (sym (turn-swept t s.book g wide k f.next some i s.list))
    (swept_sound m t (i + 1) (turned i k s) (omega (arith, e, turn-left t s.book g wide k f.next some))
    (turn_sound t s.book g wide k f.next some) (turn-wide t s.book g wide k f.next some))

-- the shape does not speak of the clock
timed_sound : (b : Book) (t : ℤ) → Sound b → Sound (record { head = at_time t b.head; opened = b.opened; ended = b.ended })
timed_sound b t s = record {
  lengths = lengths_kept b _ s.lengths refl refl refl refl;
  few = s.few;
  account = s.account;
  once = s.once;
  slot = s.slot;
  place = s.place;
  rest = s.rest;
  room = s.room;
  balance = s.balance;
  units = s.units;
}

-- what expiry leaves of a book of the shape
module _ (b : Book) (t : ℤ) (wide : length b.head.accounts ≡ 32) (s : Sound b) where
  expiry : Sound (swept t 0 (lending b b.opened)).book × (count (is_due t) (open_rows (swept t 0 (lending b b.opened)).book) ≡ 0)
  expiry = swept_sound (count (is_due t) (open_rows b)) t 0 (lending b b.opened) refl s wide

  pub expired_sound : Sound (expired b t)
  unfolding expired swept
  expired_sound = timed_sound (swept t 0 (lending b b.opened)).book t expiry.0

  pub expired-none-due : count (is_due t) (open_rows (expired b t)) ≡ 0
  unfolding expired swept
  expired-none-due = expiry.1

module _ (b : Book) (list : List ℕ) (instant : Text) (wide : length b.head.accounts ≡ 32) (e : shape b ≡ true) where
  -- a time on a book of the shape leaves a book of the shape
  pub time_shape : shape (time_step b list instant).outcome.left ≡ true
  unfolding time_step
  time_shape = by (is_done (answer_to (seen b) (time instant (places_in list))))
    where
      by : (t : Bool) → shape (cond t (expired b (instant_of instant)) b) ≡ true
      by true = shape_of (expired b (instant_of instant)) (expired_sound b (instant_of instant) wide (sound b wide e))
      by false = e

  -- an accepted time leaves no transfer open that is due by then
  pub time_none_due : is_done (time_step b list instant).outcome.answer ≡ true →
      count (is_due (instant_of instant)) (open_rows (time_step b list instant).outcome.left) ≡ 0
  unfolding time_step
  time_none_due done = rw done (expired-none-due b (instant_of instant) wide (sound b wide e))
