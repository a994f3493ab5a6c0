-- An accepted time: every transfer that is due expires, and each payer's position falls by the amounts of its own that were due. The
-- sweep goes turn by turn, and each turn ends one transfer.
use Prim.Native.Nat.{ℕ, zero, suc, ◌+◌, ◌<◌}
use mathlib.Core.Path.{◌≡◌, refl, ap, sym, subst, ◌∙◌}
use mathlib.Core.Bool.{Bool, true, false, cond}
use mathlib.Core.List.{List, [], ◌∷◌, map, map-map}
use native.Mathlib.Omega.{arith}
use lib.Dec.{eqb}
use lib.IntN.{ℤ, pos, ◌-ℤ◌, +ℤ_idr}
use lib.Signed.{le_z}
use lib.ListN.{length}
use borrow.Author.Tests.{eqb-true}
use Rattle.octets.specs.Lists.{index, count, sum}
use Rattle.octets.specs.Parts.{same, zeros}
use Rattle.octets.proofs.Integers as integers
use Rattle.octets.proofs.Stores.{length-zeros}
use Rattle.datetime.specs.Instant.{instant_of}
use Rattle.account.specs.declared.Head.{Head}
use Rattle.octets.proofs.Integers.{difference_split}
use Rattle.record.specs.Layout.{Row, num, is_free, expiration_of, state_field, payer_field}
use Rattle.record.specs.Rows.{row}
use Rattle.octets.proofs.Tests.{and_left}
use Rattle.octets.proofs.Search.{index-passes}
use Rattle.record.proofs.Rows.{length-rows, rows_at}
use Rattle.rules.specs.Answers.{is_done}
use Rattle.rules.specs.Calls.{Text, time}
use Rattle.rules.specs.View.{expired, Transfer}
use Rattle.shape.specs.Reading.{Book, names_of, transfer_of, open_rows, is_due, due_rows}
use Rattle.shape.specs.Sound.{Sound}
use Rattle.book.specs.Ending.{settled, ended_at}
use Rattle.time.specs.Effect.{expired_row, settled_all, expired as expired_after, places_in, time_step}
use Rattle.time.specs.Sweep.{Next, Lent, lending, turned, swept}
use Rattle.time.proofs.Lowest.{next-found}
use Rattle.time.proofs.Order.{index-inside, none_kept}
use Rattle.time.proofs.Turns.{swept_none, turn_sound, turn-wide, turn-left, turn-swept}
use Rattle.ledger.specs.Ledger.{Member, transfers_in, members_in, in_state, is_due_at, expired_at, positioned, moved_at, due_from, released}
use Rattle.ledger.specs.Laws.{SameFrame, Ended, Swept}
use Rattle.ledger.proofs.Done.{done-left, left-wide}
use Rattle.ledger.proofs.Each.{Each, each_so, map_same, kept-none, sum-map, sum-each, sum-none}
use Rattle.ledger.proofs.Members.{same-turned}
use Rattle.ledger.proofs.Reading.{due_at, due-rows}
use Rattle.ledger.proofs.Records.{ends_expired}
use Rattle.ledger.proofs.Ended.{settled-wide, ended_law}

-- a book in which all that was due has expired, its clock aside
record Expired (z : ℤ) (b after : Book) : Type 0 where
  transfers : (f : Transfer → ℕ) → sum f (transfers_in after) ≡ sum f (map (expired_at z) (transfers_in b))
  members : members_in after ≡ map (released z (transfers_in b)) (members_in b)
  frame : SameFrame b after

-- what is taken in two parts is taken together
taken_twice : (z : ℤ) (m n : ℕ) → (z -ℤ pos m) -ℤ pos n ≡ z -ℤ pos (m + n)
taken_twice z m n = integers.same ((z -ℤ pos m) -ℤ pos n) (z -ℤ pos (m + n))
    (omega (arith, difference_split (z -ℤ pos m) (pos n), difference_split z (pos m), difference_split z (pos (m + n))))

-- nothing is due: nothing changes
module _ (z : ℤ) (b : Book) (s : Sound b) (none : count (is_due z) (open_rows b) ≡ 0) where
  none-due : Each (λ (t : Transfer). is_due_at z t ≡ false) (transfers_in b)
  none-due = kept-none (is_due_at z) (transfers_in b)
      (due-rows b s z ∙ ap (map (transfer_of (names_of b.head))) (none_kept (is_due z) (open_rows b) none))

  none-released : (m : Member) → released z (transfers_in b) m ≡ m
  none-released m =
      let due = sum-none (due_from z m.key) (transfers_in b) (each_so _ (λ t e. rw e) none-due) in
      let old = m.standing.position in
      ap (λ (p : ℤ). positioned (λ q. p) m) (ap (λ (n : ℕ). old -ℤ pos n) due ∙ +ℤ_idr old)

  expired-none : Expired z b b
  expired-none = record {
    transfers = λ f.
        sum-each f (λ t. f (expired_at z t)) (transfers_in b) (each_so _ (λ t e. rw e) none-due)
        ∙ sym (sum-map (expired_at z) f (transfers_in b));
    members = sym (map_same (released z (transfers_in b)) (members_in b) none-released);
    frame = record { currency = refl; slots = refl; places = refl };
  }

-- one transfer that is due expires, and then the others
module _
    (z : ℤ) (b c after : Book) (t : Transfer) (due : is_due_at z t ≡ true)
    (e : Ended b c t expired t.content.payer) (x : Expired z c after) where
  abbrev amount : ℕ
  amount = t.content.amount

  -- what a payer gets back in all
  due-sum : (key : List ℕ) →
      sum (due_from z key) (transfers_in b) ≡ cond (same t.content.payer key) amount 0 + sum (due_from z key) (transfers_in c)
  due-sum key =
      let now : due_from z key t ≡ cond (same t.content.payer key) amount 0 = rw due in
      omega (arith, e.transfers (due_from z key), now)

  released-step : (m : Member) →
      released z (transfers_in c) (moved_at t.content.payer (λ p. p -ℤ pos amount) m) ≡ released z (transfers_in b) m
  released-step m = by (same m.key t.content.payer) (same-turned t.content.payer m.key)
    where
      before : ℤ
      before = m.standing.position

      then : (p : ℤ) (n : ℕ) → sum (due_from z m.key) (transfers_in b) ≡ n → p ≡ before -ℤ pos n →
          positioned (λ q. p) m ≡ released z (transfers_in b) m
      then p n k h = ap (λ (r : ℤ). positioned (λ q. r) m) (h ∙ ap (λ (j : ℕ). before -ℤ pos j) (sym k))

      by : (s : Bool) → same t.content.payer m.key ≡ s →
          released z (transfers_in c) (cond s (positioned (λ p. p -ℤ pos amount) m) m) ≡ released z (transfers_in b) m
      by true f =
          let n = sum (due_from z m.key) (transfers_in c) in
          then _ (amount + n) (rw f at (due-sum m.key)) (taken_twice before amount n)
      by false f =
          let n = sum (due_from z m.key) (transfers_in c) in
          then _ n (omega (arith, rw f at (due-sum m.key))) refl

  expired-step : Expired z b after
  expired-step = record {
    transfers = λ f.
        let g : Transfer → ℕ = λ u. f (expired_at z u) in
        let now : g t ≡ f (in_state expired t) = rw due in
        x.transfers f ∙ sum-map (expired_at z) f (transfers_in c)
        ∙ omega (arith, e.transfers g, now) ∙ sym (sum-map (expired_at z) f (transfers_in b));
    members = x.members ∙ ap (map (released z (transfers_in c))) e.members
        ∙ map-map (released z (transfers_in c)) (moved_at t.content.payer (λ p. p -ℤ pos amount)) (members_in b)
        ∙ ap (λ (h : Member → Member). map h (members_in b)) (λ i m. released-step m i);
    frame = record {
      currency = x.frame.currency ∙ e.frame.currency;
      slots = x.frame.slots ∙ e.frame.slots;
      places = x.frame.places ∙ e.frame.places;
    };
  }

-- one turn ends the transfer of the slot that is next
module _
    (z : ℤ) (b : Book) (s : Sound b) (wide : length b.head.accounts ≡ 32) (k : ℕ) (next : Next z b.opened b.head.slots k)
    (some : 0 < count (is_due z) (open_rows b)) where
  found : (k < b.head.slots) × (is_due z (row b.opened k) ≡ true)
  found =
      let rs = open_rows b in
      let j = index (is_due z) rs in
      let h = index-inside (is_due z) rs some in
      let l : j < b.head.slots = omega (arith, h, length-rows b.head.slots b.opened) in
      next.found j l (ap (is_due z) (sym (rows_at b.head.slots j b.opened [] l)) ∙ index-passes (is_due z) rs [] h)

  abbrev turn : Transfer
  turn = transfer_of (names_of b.head) (row b.opened k)

  turn-due : is_due_at z turn ≡ true
  turn-due = due_at z (names_of b.head) (row b.opened k) ∙ found.1

  turn-ended : Ended b (ended_at b k (num payer_field) expired_row) turn expired turn.content.payer
  unfolding transfer_of
  turn-ended =
      let r = row b.opened k in
      let two : num state_field r ≡ 2 = eqb-true (num state_field r) 2 (and_left (eqb (num state_field r) 2) (le_z (expiration_of r) z) found.1) in
      let taken : is_free r ≡ false = rw two in
      ended_law b s wide k found.0 taken (num payer_field) ((s.slot k found.0).taken taken).body.payer expired_row expired
      (ends_expired (names_of b.head) (zeros 32) (length-zeros 32))

-- all turns
swept-expired : (m : ℕ) (z : ℤ) (i : ℕ) (s : Lent) → count (is_due z) (open_rows s.book) ≡ m → Sound s.book →
    length s.book.head.accounts ≡ 32 → Expired z s.book (swept z i s).book
swept-expired zero z i s e g wide = rw (swept_none z i s g.lengths.opened e) (expired-none z s.book g e)
swept-expired (suc m) z i s e g wide =
    let f = next-found z s.book.opened s.book.head.slots in
    let k = f.slot in
    let some : 0 < count (is_due z) (open_rows s.book) = omega (arith, e) in
    rw (sym (turn-swept z s.book g wide k f.next some i s.list))
    (expired-step z s.book (turned i k s).book (swept z (i + 1) (turned i k s)).book (turn z s.book g wide k f.next some)
    (turn-due z s.book g wide k f.next some) (turn-ended z s.book g wide k f.next some)
    (swept-expired m z (i + 1) (turned i k s) (omega (arith, e, turn-left z s.book g wide k f.next some))
    (turn_sound z s.book g wide k f.next some) (turn-wide z s.book g wide k f.next some)))

-- what expiry leaves: the book swept, with its new time
swept_law : (b : Book) (z : ℤ) → Sound b → length b.head.accounts ≡ 32 → Swept b (expired_after b z) z
unfolding expired_after swept
swept_law b z s wide =
    let x = swept-expired (count (is_due z) (open_rows b)) z 0 (lending b []) refl s wide in
    record {
      transfers = x.transfers;
      members = x.members;
      frame = record { currency = x.frame.currency; slots = x.frame.slots; places = x.frame.places };
      clock = refl;
    }

-- as many account places as before
settled-all-wide : (h : Head) (rs : List Row) → length h.accounts ≡ 32 → length (settled_all h rs).accounts ≡ 32
unfolding settled_all
settled-all-wide h [] wide = wide
settled-all-wide h (r ∷ rs) wide = settled-all-wide (settled h (num payer_field r) r) rs (settled-wide h (num payer_field r) r wide)

-- what a time leaves
module _ (b : Book) (wide : length b.head.accounts ≡ 32) (list : List ℕ) (instant : Text) where
  pub time_wide_lem : length (time_step b list instant).outcome.left.head.accounts ≡ 32
  unfolding time_step expired_after
  time_wide_lem = left-wide b (expired_after b (instant_of instant)) (time instant (places_in list)) wide
      (settled-all-wide b.head (due_rows (instant_of instant) b) wide)

  pub time_law : Sound b → is_done (time_step b list instant).outcome.answer ≡ true →
      Swept b (time_step b list instant).outcome.left (instant_of instant)
  unfolding time_step
  time_law s done =
      subst (λ (after : Book). Swept b after (instant_of instant))
      (sym (done-left b (expired_after b (instant_of instant)) (time instant (places_in list)) done)) (swept_law b (instant_of instant) s wide)
