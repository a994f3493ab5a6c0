-- An accepted prepare leaves a book of the shape.
use Prim.Native.Nat.{ℕ, ◌+◌, ◌*◌, ◌<◌}
use mathlib.Core.Path.{◌≡◌, refl, ap, sym, ◌∙◌}
use mathlib.Core.Bool.{Bool, true, false, cond}
use mathlib.Core.List.{List, []}
use native.Mathlib.Omega.{arith}
use lib.Dec.{eqb}
use lib.ListN.{length, get_or, set, length-set}
use lib.Seq.{sets, length-sets}
use lib.IntN.{pos, ◌+ℤ◌}
use lib.Signed.{le_z}
use borrow.Author.Tests.{eqb-true, eqb-false, not-false}
use Rattle.octets.specs.Lists.{count, sum}
use Rattle.octets.specs.Parts.{same}
use Rattle.octets.specs.Integers.{up, dn}
use Rattle.octets.proofs.Equal.{same_equal, same_refl}
use Rattle.octets.proofs.Integers as integers
use Rattle.octets.proofs.Integers.{sum_split, le_split, le_yes}
use Rattle.octets.proofs.Search.{index-passes}
use Rattle.octets.proofs.Walk.{sum-set, count-sum}
use Rattle.account.specs.declared.Position.{Position}
use Rattle.account.specs.Position.{worth, value, raised_by, InRange}
use Rattle.account.specs.Head.{name_of, named, accounts_of, account_at, no_account, place_of, with_position}
use Rattle.account.proofs.Positions.{value-raised, held_remainder}
use Rattle.record.specs.declared.Content.{Content}
use Rattle.record.specs.Layout.{Row, new_row, amount_of, is_free, units_field, remainder_field}
use Rattle.record.specs.Rows.{row}
use Rattle.record.proofs.Fields.{Sized, length-new, new_state, new-payer, new-payee, new-ended_by}
use Rattle.record.proofs.Fields.{new_units, new_remainder, new-amount, zero-num}
use Rattle.record.proofs.Rows.{length-rows, rows_at, rows-set, row_same, row_other, new_used}
use Rattle.rules.specs.Answers.{is_done}
use Rattle.rules.specs.Rules.{highest_cap, prepare_rules}
use Rattle.shape.specs.Reading.{Book, open_rows, open_count, is_taken}
use Rattle.shape.specs.Seen.{seen}
use Rattle.shape.specs.Shape.{shape, none_twice, total}
use Rattle.shape.specs.Sound.{SoundAccount, SoundSlot, Sound}
use Rattle.shape.proofs.Names.{length_accounts}
use Rattle.shape.proofs.Sound.{shape_of, lengths_kept}
use Rattle.book.proofs.Decisions.{clash, in_open}
use Rattle.prepare.specs.Effect.{new_number, free_slot, raised}
use Rattle.prepare.specs.Inner.{said, reserved_by, prepared_by}
use Rattle.prepare.proofs.Positioned.{moved, units_of, names-kept, total-moved, accounts_kept}
use Rattle.prepare.proofs.Tests.{not_at_most}
use Rattle.prepare.proofs.Verdict.{Accepted, answer-is, accepted}

module _ (b : Book) (s : Sound b) (long : length b.head.accounts ≡ 32) where
  -- an account is where its name is found
  found : (name : List ℕ) → place_of b.head name < b.head.count →
      name_of (get_or (accounts_of b.head) (place_of b.head name) no_account) ≡ name
  found name h =
      let xs = accounts_of b.head in
      same_equal _ name (index-passes (named name) xs no_account (omega (arith, length_accounts b.head long s.few)))

  -- so the accounts of two names differ
  apart : (payer payee : List ℕ) → place_of b.head payer < b.head.count → place_of b.head payee < b.head.count →
      same payer payee ≡ false → place_of b.head payer ≡ place_of b.head payee → ⊥
  apart payer payee h k d e =
      let names : payer ≡ payee =
      sym (found payer h) ∙ ap (λ (i : ℕ). name_of (get_or (accounts_of b.head) i no_account)) e ∙ found payee k in
      clash (sym d ∙ ap (same payer) (sym names) ∙ same_refl payer)

  module _ (payer payee : List ℕ) (c : Content) (sized : Sized c) (small : InRange c.amount)
      (a : Accepted b payer payee c (place_of b.head payer) (place_of b.head payee)) where
    abbrev p : ℕ
    p = place_of b.head payer

    abbrev q : ℕ
    q = place_of b.head payee

    abbrev k : ℕ
    k = free_slot b

    abbrev new : Row
    new = new_row c p q (new_number b)

    abbrev position : Position
    position = raised_by (account_at b.head p).position c.amount

    abbrev after : Book
    after = record { head = with_position b.head p position; opened = sets b.opened (k * 160) new; ended = b.ended }

    -- the account: "10 if position + amount > cap", and it is not
    high : le_z (value position) (pos highest_cap) ≡ true
    high =
        let old = account_at b.head p in
        let sum = value old.position +ℤ pos (worth c.amount) in
        let within : le_z sum (pos (worth old.cap)) ≡ true =
        not-false _ (not_at_most sum (pos (worth old.cap)) ∙ a.cap) in
        rw (value-raised old.position c.amount)
        (le_yes sum (pos highest_cap) (omega (arith, le_split sum (pos (worth old.cap)) within, (s.account p a.payer_is).cap)))

    -- the record
    new_sound : SoundSlot b.head.count new
    new_sound = record {
      free = λ e. clash (sym (new_used c p q (new_number b) sized) ∙ e);
      taken = λ e. record {
        state = new_state c p q (new_number b) sized;
        ended_by = new-ended_by c p q (new_number b) sized;
        body = record {
          payer = rw (new-payer c p q (new_number b) sized) a.payer_is;
          payee = rw (new-payee c p q (new_number b) sized) a.payee_is;
          differ = λ f. apart payer payee a.payer_is a.payee_is a.differ
              (sym (new-payer c p q (new_number b) sized) ∙ f ∙ new-payee c p q (new_number b) sized);
          units = rw (new_units c p q (new_number b) sized (omega (arith, small.units))) small.units;
          remainder = rw (new_remainder c p q (new_number b) sized (omega (arith, small.remainder))) small.remainder;
        };
      };
    }

    slots_kept : (j : ℕ) → j < b.head.slots → SoundSlot b.head.count (row after.opened j)
    slots_kept j h = go (eqb j k) refl
      where
        go : (t : Bool) → eqb j k ≡ t → SoundSlot b.head.count (row after.opened j)
        go true e =
            rw (eqb-true j k e, row_same b.opened new k (length-new c p q (new_number b)) (in_open b s k a.free)) new_sound
        go false e = rw (row_other b.opened new k j (length-new c p q (new_number b)) (eqb-false j k e)) (s.slot j h)

    -- one record more is open, and its amount is reserved
    rows_are : open_rows after ≡ set (open_rows b) k new
    rows_are =
        rows-set b.head.slots k b.opened new (length-new c p q (new_number b)) (omega (arith, s.lengths.opened)) a.free

    inside : k < length (open_rows b)
    inside = omega (arith, a.free, length-rows b.head.slots b.opened)

    was_free : is_free (get_or (open_rows b) k []) ≡ true
    was_free = index-passes is_free (open_rows b) [] inside

    one_more : open_count after ≡ open_count b + 1
    one_more =
        let taken : Row → ℕ = λ r. cond (is_taken r) 1 0 in
        let old : taken (get_or (open_rows b) k []) ≡ 0 = rw was_free in
        let now : taken new ≡ 1 = rw (new_used c p q (new_number b) sized) in
        ap (count is_taken) rows_are ∙ count-sum is_taken (set (open_rows b) k new)
        ∙ omega (arith, sum-set taken (open_rows b) k new [] inside, count-sum is_taken (open_rows b), old, now)

    amount_more : sum amount_of (open_rows after) ≡ sum amount_of (open_rows b) + worth c.amount
    amount_more =
        let r = get_or (open_rows b) k [] in
        let zero = (s.slot k a.free).free (ap is_free (sym (rows_at b.head.slots k b.opened [] a.free)) ∙ was_free) in
        let old : amount_of r ≡ 0 = rw (
          rows_at b.head.slots k b.opened [] a.free,
          zero-num units_field (row b.opened k) zero,
          zero-num remainder_field (row b.opened k) zero,
        ) in
        let now = new-amount c p q (new_number b) sized (omega (arith, small.units)) (omega (arith, small.remainder)) in
        ap (sum amount_of) rows_are ∙ omega (arith, sum-set amount_of (open_rows b) k new [] inside, old, now)

    balanced : total (accounts_of after.head) ≡ pos (sum amount_of (open_rows after))
    balanced =
        let old = (account_at b.head p).position in
        let raise = value-raised old c.amount in
        integers.same _ (pos (sum amount_of (open_rows after)))
        (omega (
          arith,
          total-moved b.head long s.few p a.payer_is position,
          ap up raise,
          ap dn raise,
          sum_split (value old) (pos (worth c.amount)),
          ap up s.balance,
          ap dn s.balance,
          amount_more,
        ))

    accounts : (j : ℕ) → j < b.head.count → SoundAccount (account_at after.head j)
    accounts = accounts_kept b.head long s.few p a.payer_is position s.account high (held_remainder _)

    as_many : length after.head.accounts ≡ 32
    as_many = length-set b.head.accounts p (moved (account_at b.head p) position) ∙ long

    after_sound : Sound after
    after_sound = record {
      lengths = lengths_kept b _ s.lengths refl refl (length-sets b.opened (k * 160) new) refl;
      few = s.few;
      account = accounts;
      once = ap none_twice (names-kept b.head long s.few p a.payer_is position) ∙ s.once;
      slot = slots_kept;
      place = s.place;
      rest = s.rest;
      room = omega (arith, one_more, a.place);
      balance = balanced;
      units = units_of after.head as_many s.few accounts (sum amount_of (open_rows after)) balanced;
    }

    pub reserved-shape : shape (reserved_by b payer payee c) ≡ true
    unfolding reserved_by raised
    reserved-shape = shape_of after after_sound

  -- what a prepare leaves, refused or accepted
  pub left-shape : shape b ≡ true → (payer payee currency : List ℕ) (c : Content) → Sized c → InRange c.amount →
      shape (prepared_by b payer payee currency c).left ≡ true
  unfolding prepared_by
  left-shape e payer payee currency c sized small = go (is_done (prepare_rules (seen b) (said payer payee c) currency)) refl
    where
      go : (t : Bool) → is_done (prepare_rules (seen b) (said payer payee c) currency) ≡ t →
          shape (cond t (reserved_by b payer payee c) b) ≡ true
      go true f =
          reserved-shape payer payee c sized small
          (accepted b s long payer payee currency c (ap is_done (answer-is b s long payer payee currency c) ∙ f))
      go false f = e
