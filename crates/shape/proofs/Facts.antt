-- What the tests of an account and of a record tell, and what makes them pass.
use Prim.Native.Nat.{ℕ, ◌+◌, ◌*◌, ◌≤◌}
use mathlib.Core.Path.{◌≡◌, refl, sym, ◌∙◌}
use mathlib.Core.Bool.{Bool, true, false, not, ◌&&◌, ◌||◌}
use mathlib.Core.Logic.{◌⊎◌, inl, inr, ⊎_elim}
use native.Mathlib.Omega.{arith}
use lib.Dec.{eqb, leb, ltb}
use lib.ListN.{length}
use lib.IntN.{ℤ, pos, negsuc, ◌+ℤ◌, ◌*ℤ◌}
use lib.Signed.{le_z}
use borrow.Author.Tests.{ltb-true, leb-true, eqb-true, eqb-false, lt-ltb, le-leb, eq-eqb, ne_eqb, not-true}
use Rattle.octets.specs.Parts.{all_zero}
use Rattle.octets.specs.Integers.{up}
use Rattle.octets.proofs.Integers.{le_yes, mul_split, sum_split}
use Rattle.octets.proofs.Tests.{and-false, or-true, both, either}
use Rattle.form.specs.Listings.{name_form}
use Rattle.account.specs.declared.Account.{Account}
use Rattle.account.specs.Position.{worth, value}
use Rattle.account.specs.Head.{name_of}
use Rattle.record.specs.Layout.{Row, num, is_free, state_field, payer_field, payee_field, ended_by_field, remainder_field, units_field}
use Rattle.rules.specs.Calls.{is_of}
use Rattle.rules.specs.Rules.{highest_cap}
use Rattle.shape.specs.Reading.{Book}
use Rattle.shape.specs.Shape.{lengths_ok, account_ok, record_ok, open_ok, ended_ok}
use Rattle.shape.specs.Scan.{reserved_ok}
use Rattle.shape.specs.Sound.{SoundAccount, SoundRecord, SoundReserved, SoundSlot, SoundEnded, SoundLengths}

-- a position is at most as much where the units above zero are
pub position-told : (z : ℤ) (remainder : ℕ) →
    leb (up z * 10000 + remainder) highest_cap && ltb remainder 10000
    ≡ le_z (z *ℤ pos 10000 +ℤ pos remainder) (pos highest_cap) && ltb remainder 10000
position-told (pos n) remainder = refl
position-told (negsuc n) remainder = go (ltb remainder 10000) refl
  where
    go : (t : Bool) → ltb remainder 10000 ≡ t →
        leb (0 * 10000 + remainder) highest_cap && t ≡ le_z (negsuc n *ℤ pos 10000 +ℤ pos remainder) (pos highest_cap) && t
    go true e =
        let h = ltb-true remainder 10000 e in
        rw (
          le-leb (0 * 10000 + remainder) highest_cap (omega arith),
          le_yes (negsuc n *ℤ pos 10000 +ℤ pos remainder) (pos highest_cap)
              (omega (arith, mul_split 10000 (negsuc n), sum_split (negsuc n *ℤ pos 10000) (pos remainder))),
        )
    go false e =
        and-false (leb (0 * 10000 + remainder) highest_cap)
        ∙ sym (and-false (le_z (negsuc n *ℤ pos 10000 +ℤ pos remainder) (pos highest_cap)))

-- an account
module _ (a : Account) where
  abbrev name_test : Bool
  name_test = leb a.length 32 && is_of name_form (name_of a)

  abbrev cap_part : Bool
  cap_part = leb (worth a.cap) highest_cap && ltb a.cap.remainder 10000

  abbrev position_part : Bool
  position_part = le_z (value a.position) (pos highest_cap) && ltb a.position.remainder 10000

  pub account_sound : account_ok a ≡ true → SoundAccount a
  unfolding account_ok
  account_sound e =
      let n = both name_test (cap_part && position_part) e in
      let m = both cap_part position_part n.1 in
      let named = both (leb a.length 32) (is_of name_form (name_of a)) n.0 in
      let cap = both (leb (worth a.cap) highest_cap) (ltb a.cap.remainder 10000) m.0 in
      let position = both (le_z (value a.position) (pos highest_cap)) (ltb a.position.remainder 10000) m.1 in
      record {
        short = leb-true _ _ named.0;
        name = named.1;
        cap = leb-true _ _ cap.0;
        cap_remainder = ltb-true _ _ cap.1;
        position = position.0;
        remainder = ltb-true _ _ position.1;
      }

  pub account_ok_lem : SoundAccount a → account_ok a ≡ true
  unfolding account_ok
  account_ok_lem s =
      rw (le-leb _ _ s.short, s.name, le-leb _ _ s.cap, lt-ltb _ _ s.cap_remainder, s.position, lt-ltb _ _ s.remainder)

  -- the units above zero of a position
  pub position_most : SoundAccount a → up a.position.units * 10000 + a.position.remainder ≤ highest_cap
  unfolding value
  position_most s =
      let units = a.position.units in
      let remainder = a.position.remainder in
      let p : leb (up units * 10000 + remainder) highest_cap && ltb remainder 10000 ≡ true =
      position-told units remainder ∙ rw (s.position, lt-ltb remainder 10000 s.remainder) in
      leb-true _ _ (both (leb (up units * 10000 + remainder) highest_cap) (ltb remainder 10000) p).0

-- a record
module _ (accounts : ℕ) (r : Row) where
  pub record_sound : record_ok accounts r ≡ true → SoundRecord accounts r
  unfolding record_ok
  record_sound e =
      let payer = ltb (num payer_field r) accounts in
      let payee = ltb (num payee_field r) accounts in
      let differ = not (eqb (num payer_field r) (num payee_field r)) in
      let units = ltb (num units_field r) 1000000000000000000 in
      let remainder = ltb (num remainder_field r) 10000 in
      let halves = both (payer && (payee && differ)) (units && remainder) e in
      let parties = both payer (payee && differ) halves.0 in
      let second = both payee differ parties.1 in
      let amount = both units remainder halves.1 in
      record {
        payer = ltb-true _ _ parties.0;
        payee = ltb-true _ _ second.0;
        differ = eqb-false _ _ (not-true _ second.1);
        units = ltb-true _ _ amount.0;
        remainder = ltb-true _ _ amount.1;
      }

  pub record_ok_lem : SoundRecord accounts r → record_ok accounts r ≡ true
  unfolding record_ok
  record_ok_lem s =
      rw (lt-ltb _ _ s.payer, lt-ltb _ _ s.payee, ne_eqb _ _ s.differ, lt-ltb _ _ s.units, lt-ltb _ _ s.remainder)

pub reserved_sound : (accounts : ℕ) (r : Row) → reserved_ok accounts r ≡ true → SoundReserved accounts r
unfolding reserved_ok
reserved_sound accounts r e =
    let state = eqb (num state_field r) 2 in
    let by = eqb (num ended_by_field r) 0 in
    let halves = both (state && by) (record_ok accounts r) e in
    let marks = both state by halves.0 in
    record { state = eqb-true _ _ marks.0; ended_by = eqb-true _ _ marks.1; body = record_sound accounts r halves.1 }

pub reserved_ok_lem : (accounts : ℕ) (r : Row) → SoundReserved accounts r → reserved_ok accounts r ≡ true
unfolding reserved_ok
reserved_ok_lem accounts r s = rw (eq-eqb _ _ s.state, eq-eqb _ _ s.ended_by, record_ok_lem accounts r s.body)

-- a slot: free and zero, or taken
pub slot_free : (accounts : ℕ) (r : Row) → is_free r ≡ true → open_ok accounts r ≡ all_zero r
unfolding open_ok
slot_free accounts r e = rw e

pub slot_taken : (accounts : ℕ) (r : Row) → is_free r ≡ false → open_ok accounts r ≡ reserved_ok accounts r
unfolding open_ok reserved_ok
slot_taken accounts r e = rw e

pub slot_sound : (accounts : ℕ) (r : Row) → open_ok accounts r ≡ true → SoundSlot accounts r
slot_sound accounts r e = record {
  free = λ f. sym (slot_free accounts r f) ∙ e;
  taken = λ f. reserved_sound accounts r (sym (slot_taken accounts r f) ∙ e);
}

pub slot_ok : (accounts : ℕ) (r : Row) → SoundSlot accounts r → open_ok accounts r ≡ true
slot_ok accounts r s = go (is_free r) refl
  where
    go : (t : Bool) → is_free r ≡ t → open_ok accounts r ≡ true
    go true e = slot_free accounts r e ∙ s.free e
    go false e = slot_taken accounts r e ∙ reserved_ok_lem accounts r (s.taken e)

-- a finished record
module _ (accounts : ℕ) (r : Row) where
  abbrev fulfilled : Bool
  fulfilled = eqb (num state_field r) 3 && eqb (num ended_by_field r) 1

  abbrev stopped : Bool
  stopped = eqb (num state_field r) 4 && (eqb (num ended_by_field r) 2 || eqb (num ended_by_field r) 3)

  abbrev Fulfilled : Type 0
  Fulfilled = (num state_field r ≡ 3) × (num ended_by_field r ≡ 1)

  abbrev Stopped : Type 0
  Stopped = (num state_field r ≡ 4) × ((num ended_by_field r ≡ 2) ⊎ (num ended_by_field r ≡ 3))

  was_fulfilled : fulfilled ≡ true → Fulfilled
  was_fulfilled e =
      let p = both (eqb (num state_field r) 3) (eqb (num ended_by_field r) 1) e in
      (eqb-true _ _ p.0, eqb-true _ _ p.1)

  was_stopped : stopped ≡ true → Stopped
  was_stopped e =
      let p = both (eqb (num state_field r) 4) (eqb (num ended_by_field r) 2 || eqb (num ended_by_field r) 3) e in (
        eqb-true _ _ p.0,
        ⊎_elim (λ x. inl (eqb-true _ _ x)) (λ x. inr (eqb-true _ _ x))
            (either (eqb (num ended_by_field r) 2) (eqb (num ended_by_field r) 3) p.1),
      )

  pub ended_sound : ended_ok accounts r ≡ true → SoundEnded accounts r
  unfolding ended_ok
  ended_sound e =
      let p = both (fulfilled || stopped) (record_ok accounts r) e in
      record {
        ending = ⊎_elim (λ x. inl (was_fulfilled x)) (λ x. inr (was_stopped x)) (either fulfilled stopped p.0);
        body = record_sound accounts r p.1;
      }

  is-fulfilled : Fulfilled → fulfilled || stopped ≡ true
  is-fulfilled p = rw (eq-eqb _ _ p.0, eq-eqb _ _ p.1)

  is-stopped : Stopped → fulfilled || stopped ≡ true
  is-stopped p =
      let by : eqb (num ended_by_field r) 2 || eqb (num ended_by_field r) 3 ≡ true =
      ⊎_elim (λ x. rw (eq-eqb (num ended_by_field r) 2 x)) (λ x. rw (eq-eqb (num ended_by_field r) 3 x) (or-true (eqb (num ended_by_field r) 2))) p.1 in
      rw (eq-eqb (num state_field r) 4 p.0, by) (or-true fulfilled)

  pub ended_ok_lem : SoundEnded accounts r → ended_ok accounts r ≡ true
  unfolding ended_ok
  ended_ok_lem s = rw (⊎_elim is-fulfilled is-stopped s.ending, record_ok_lem accounts r s.body)

-- the lengths
pub lengths_sound : (b : Book) → lengths_ok b ≡ true → SoundLengths b
lengths_sound b e =
    let l1 = eqb (length b.opened) (b.head.slots * 160) in
    let l2 = leb 1 b.head.slots in
    let l3 = leb b.head.slots 1024 in
    let l4 = eqb (length b.ended) (b.head.places * 160) in
    let l5 = leb 1 b.head.places in
    let l6 = leb b.head.places 65535 in
    let p1 = both l1 (l2 && (l3 && (l4 && (l5 && l6)))) e in
    let p2 = both l2 (l3 && (l4 && (l5 && l6))) p1.1 in
    let p3 = both l3 (l4 && (l5 && l6)) p2.1 in
    let p4 = both l4 (l5 && l6) p3.1 in
    let p5 = both l5 l6 p4.1 in
    record {
      opened = eqb-true _ _ p1.0;
      some_slots = leb-true _ _ p2.0;
      few_slots = leb-true _ _ p3.0;
      ended = eqb-true _ _ p4.0;
      some_places = leb-true _ _ p5.0;
      few_places = leb-true _ _ p5.1;
    }

pub lengths_ok_lem : (b : Book) → SoundLengths b → lengths_ok b ≡ true
lengths_ok_lem b s =
    rw (
      eq-eqb _ _ s.opened,
      le-leb _ _ s.some_slots,
      le-leb _ _ s.few_slots,
      eq-eqb _ _ s.ended,
      le-leb _ _ s.some_places,
      le-leb _ _ s.few_places,
    )
