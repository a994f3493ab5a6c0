-- What a fulfil and an abort decide on the record of an id, and what they leave: 0 is answered on an open record only.
use Prim.Native.Nat.{ℕ, ◌+◌, ◌*◌, ◌<◌, ◌≤◌}
use mathlib.Core.Path.{◌≡◌, refl, ap, sym, ◌∙◌}
use mathlib.Core.Bool.{Bool, true, false, cond, not, false≢true, ◌&&◌}
use mathlib.Core.Logic.{◌⊎◌, inl, inr}
use mathlib.Core.List.{List, []}
use mathlib.Core.Option.{none, some}
use Rattle.std.specs.Prelude.{Option, Some, None}
use native.Mathlib.Omega.{arith}
use lib.Dec.{eqb}
use lib.ListN.{length, get_or}
use borrow.Author.Tests.{not-true, lt-ltb}
use Rattle.octets.specs.Parts.{same}
use Rattle.octets.proofs.Search.{index-passes}
use Rattle.octets.proofs.Tests.{and_left}
use Rattle.record.specs.Layout.{Row, get, num, is_free}
use Rattle.record.specs.Layout.{id_field, state_field, payee_field, number_field, ended_by_field, code_field, fulfilment_field}
use Rattle.record.specs.Rows.{row, holds}
use Rattle.record.proofs.Rows.{length-rows, rows_at, length-row}
use Rattle.rules.specs.declared.Answer.{Answer}
use Rattle.rules.specs.declared.Answer.TheVariants.{NotInForm, OutOfShape, UnknownId, NotThePayee}
use Rattle.rules.specs.Answers.{is_done}
use Rattle.rules.specs.Calls.{Call, in_form}
use Rattle.rules.specs.View.{reserved, committed, aborted, expired, Transfer}
use Rattle.rules.specs.Rules.{payee_rules, number_or, tests_shape, rules, answer_to}
use Rattle.shape.specs.Reading.{Book, names_of, state_of, transfer_of, open_rows, held_transfer, map_some}
use Rattle.shape.specs.Sound.{Sound, SoundRecord, SoundEnded, SoundReserved}
use Rattle.shape.specs.Shape.{shape}
use Rattle.shape.specs.Seen.{seen}
use Rattle.shape.proofs.Sound.{sound_named, shape_of}
use Rattle.book.specs.declared.Decision.{Decision}
use Rattle.book.specs.declared.Place.{Place}
use Rattle.book.specs.declared.Place.TheVariants.{Opened, Ended}
use Rattle.book.specs.Step.{replied, slot_of, where_is, record_in}
use Rattle.book.specs.Ending.{ended_at}
use Rattle.book.specs.Inner.{resent, InBooks, Inside, PayeeNamed, CanEnd, carried_out, row_at, Decided, by_payee}
use Rattle.book.proofs.Held.{held_at, opened_at, ended_at_lem}
use Rattle.book.proofs.Ends.{ending_can, ending_sound}

pub clash : {A : Type 0} → false ≡ true → A
clash e = absurd (false≢true e)

-- a resend is not done
pub not-resent : {A : Type 0} (t : Bool) → is_done (resent t) ≡ true → A
not-resent true e = clash e
not-resent false e = clash e

module _ (b : Book) (s : Sound b) where
  pub in_books : InBooks b
  in_books = record { slots = omega (arith, s.lengths.opened); finished = omega (arith, s.lengths.ended, s.room) }

  pub in_open : (k : ℕ) → k < b.head.slots → k * 160 + 160 ≤ length b.opened
  in_open k l = omega (arith, s.lengths.opened)

  pub in_ended : (k : ℕ) → k < b.head.finished → k * 160 + 160 ≤ length b.ended
  in_ended k l = omega (arith, s.lengths.ended, s.room)

  -- a slot that holds an id is taken
  pub holding : (id : List ℕ) → slot_of b id < b.head.slots → is_free (row b.opened (slot_of b id)) ≡ false
  unfolding holds
  holding id l =
      let k = slot_of b id in
      let p : holds id (row b.opened k) ≡ true =
      ap (holds id) (sym (rows_at b.head.slots k b.opened [] l))
      ∙ index-passes (holds id) (open_rows b) [] (omega (arith, length-rows b.head.slots b.opened)) in
      not-true (is_free (row b.opened k)) (and_left (not (is_free (row b.opened k))) (same (get id_field (row b.opened k)) id) p)

  -- so its record is RESERVED, with parties and amount in order
  pub held_open : (id : List ℕ) → slot_of b id < b.head.slots → SoundReserved b.head.count (row b.opened (slot_of b id))
  held_open id l = (s.slot (slot_of b id) l).taken (holding id l)

  -- a record that is found is in its book, and its payee has an account
  pub inside_found : (id : List ℕ) (p : Place) → where_is b id ≡ Some p → Inside b.opened b.ended p
  inside_found id (Opened k) e = in_open k (opened_at b id k e).1
  inside_found id (Ended k) e = in_ended k (ended_at_lem b id k e)

  named_in : (book : List ℕ) (k : ℕ) → k * 160 + 160 ≤ length book → num payee_field (row book k) < b.head.count → PayeeNamed b.head (row book k)
  named_in book k long payee = record { long = length-row book k long; named = sound_named b s; payee = payee }

  pub payee_found : (id : List ℕ) (p : Place) → where_is b id ≡ Some p → PayeeNamed b.head (record_in b.opened b.ended p)
  payee_found id (Opened k) e =
      let p = opened_at b id k e in
      named_in b.opened k (in_open k p.1) (rw p.0 (held_open id (omega (arith, p.0, p.1))).body.payee)
  payee_found id (Ended k) e = let l = ended_at_lem b id k e in named_in b.ended k (in_ended k l) (s.place k l).body.payee

-- a finished record is not RESERVED
ended_state : (t d : Bool) (f : List ℕ) (code : ℕ) → cond t (committed f) (cond d (aborted code) expired) ≡ reserved → ⊥
ended_state true d f code e = let z : ◌≡◌ {A = ℕ} 0 1 = cc in omega arith
ended_state false true f code e = let z : ◌≡◌ {A = ℕ} 0 1 = cc in omega arith
ended_state false false f code e = let z : ◌≡◌ {A = ℕ} 0 1 = cc in omega arith

not-two : (accounts : ℕ) (r : Row) → SoundEnded accounts r → eqb (num state_field r) 2 ≡ false
not-two accounts r s = go s.ending
  where
    go : ((num state_field r ≡ 3) × (num ended_by_field r ≡ 1)) ⊎ ((num state_field r ≡ 4) × ((num ended_by_field r ≡ 2) ⊎ (num ended_by_field r ≡ 3))) →
        eqb (num state_field r) 2 ≡ false
    go (inl e) = rw e.0
    go (inr e) = rw e.0

pub not-reserved : (accounts : ℕ) (r : Row) → SoundEnded accounts r → state_of r ≡ reserved → ⊥
unfolding state_of
not-reserved accounts r s e =
    ended_state (eqb (num state_field r) 3) (eqb (num ended_by_field r) 2) (get fulfilment_field r) (num code_field r) (rw (not-two accounts r s) at e)

-- 0 is an answer to the payee only
by_the_payee : (t : Bool) (a : Answer) → is_done (cond t a NotThePayee) ≡ true → is_done a ≡ true
by_the_payee true a e = e
by_the_payee false a e = clash e

some_place : {p q : Place} → ◌≡◌ {A = Option Place} (Some p) (Some q) → p ≡ q
some_place e = cc

-- the transfer at a place
abbrev pub transfer_in : Book → Place → Transfer
transfer_in b p = transfer_of (names_of b.head) (record_in b.opened b.ended p)

pub transfer_found : (b : Book) (id : List ℕ) (p : Place) → where_is b id ≡ Some p → held_transfer b id ≡ some (transfer_in b p)
transfer_found b id p e = ap (map_some (transfer_of (names_of b.head))) (held_at b id ∙ ap (row_at b) e)

pub transfer_nowhere : (b : Book) (id : List ℕ) → where_is b id ≡ None → held_transfer b id ≡ none
transfer_nowhere b id e = ap (map_some (transfer_of (names_of b.head))) (held_at b id ∙ ap (row_at b) e)

-- the answers by the state are such that only a RESERVED transfer ends
module _
    (b : Book) (s : Sound b) (sender id : List ℕ) (by_state : Transfer → Answer)
    (ends : (t : Transfer) → is_done (by_state t) ≡ true → t.state ≡ reserved) where
  -- where 0 is answered the id is in the open book
  pub done_taken : is_done (payee_rules (held_transfer b id) sender by_state) ≡ true → slot_of b id < b.head.slots
  unfolding transfer_of
  done_taken e = by (where_is b id) refl
    where
      by : (q : Option Place) → where_is b id ≡ q → slot_of b id < b.head.slots
      by (Some (Opened k)) w = let p = opened_at b id k w in omega (arith, p.0, p.1)
      by (Some (Ended k)) w =
          let t = transfer_in b (Ended k) in
          let done : is_done (cond (same t.content.payee sender) (by_state t) NotThePayee) ≡ true = rw (transfer_found b id (Ended k) w) at e in
          absurd (not-reserved b.head.count (row b.ended k) (s.place k (ended_at_lem b id k w))
          (ends t (by_the_payee (same t.content.payee sender) (by_state t) done)))
      by None w = clash (rw (transfer_nowhere b id w) at e)

  -- so the slot of a decision counts on an open record only
  pub decides : (d : Decision) → d.answer ≡ payee_rules (held_transfer b id) sender by_state → d.mark ≡ number_or 0 (held_transfer b id) →
      (is_done d.answer ≡ true → where_is b id ≡ Some (Opened (slot_of b id)) → d.slot ≡ slot_of b id) → Decided b sender id by_state d
  decides d answer mark slot =
      let taken : is_done d.answer ≡ true → slot_of b id < b.head.slots = λ z. done_taken (sym (ap is_done answer) ∙ z) in
      record {
        answer = answer;
        mark = mark;
        slot = λ z. let h = taken z in slot z (rw (lt-ltb (slot_of b id) b.head.slots h));
        taken = taken;
      }

  -- so it is decided: 11, 12, or the answer by the state
  pub decided_nowhere : (d : Decision) → where_is b id ≡ None → d ≡ record { answer = UnknownId; mark = 0; slot = 0 } →
      Decided b sender id by_state d
  decided_nowhere d e f = rw f (decides _ (rw (transfer_nowhere b id e)) (rw (transfer_nowhere b id e)) (λ z. clash z))

  module _ (p : Place) (e : where_is b id ≡ Some p) where
    abbrev found : Row
    found = record_in b.opened b.ended p

    abbrev by_the_name : Bool
    by_the_name = same (get_or (names_of b.head) (num payee_field found) []) sender

    pub decided_other : (d : Decision) → by_the_name ≡ false →
        d ≡ record { answer = NotThePayee; mark = num number_field found; slot = 0 } → Decided b sender id by_state d
    unfolding transfer_of
    decided_other d n f = rw f (decides _ (rw (transfer_found b id p e, n)) (rw (transfer_found b id p e)) (λ z. clash z))

    pub decided_payee : (d : Decision) → by_the_name ≡ true → (a : Answer) (slot : ℕ) → a ≡ by_state (transfer_in b p) →
        ((k : ℕ) → p ≡ Opened k → slot ≡ k) → d ≡ record { answer = a; mark = num number_field found; slot = slot } →
        Decided b sender id by_state d
    unfolding transfer_of
    decided_payee d n a slot by_rule at f =
        rw f (decides _ (rw (transfer_found b id p e, n, by_rule)) (rw (transfer_found b id p e))
        (λ z w. at (slot_of b id) (some_place (sym e ∙ w))))

-- what a decision leaves: where it is 0 the book with the record ended, and else the book as it was
module _ (b : Book) (sender id : List ℕ) (by_state : Transfer → Answer) (d : Decision) (p : Decided b sender id by_state d) where
  -- the record of the slot decided on can end, for either party
  pub decided_ends : Sound b → (party : Row → ℕ) → ((r : Row) → SoundRecord b.head.count r → party r < b.head.count) →
      is_done d.answer ≡ true → CanEnd b d.slot (party (row b.opened d.slot))
  decided_ends s party known e =
      rw (p.slot e) (ending_can b s (slot_of b id) (p.taken e) (holding b s id (p.taken e)) (party (row b.opened (slot_of b id)))
      (known _ (held_open b s id (p.taken e)).body))

  pub decided_leaves : (party : Row → ℕ) (ending : Row → Row) →
      carried_out b d party ending ≡ by_payee b sender id by_state (ended_at b (slot_of b id) party ending)
  decided_leaves party ending = λ i. record { answer = p.answer i; mark = p.mark i; left = left i }
    where
      ended : ℕ → Book
      ended k = ended_at b k party ending

      of_slot : (t : Bool) → (t ≡ true → d.slot ≡ slot_of b id) → cond t (ended d.slot) b ≡ cond t (ended (slot_of b id)) b
      of_slot true e = ap ended (e refl)
      of_slot false e = refl

      left : cond (is_done d.answer) (ended d.slot) b
          ≡ cond (is_done (payee_rules (held_transfer b id) sender by_state)) (ended (slot_of b id)) b
      left = of_slot (is_done d.answer) p.slot ∙ ap (λ (a : Answer). cond (is_done a) (ended (slot_of b id)) b) p.answer

-- so what is left is of the shape, if the record as it ends is one of a finished book
module _
    (b : Book) (s : Sound b) (wide : length b.head.accounts ≡ 32) (sender id : List ℕ) (by_state : Transfer → Answer)
    (ends : (t : Transfer) → is_done (by_state t) ≡ true → t.state ≡ reserved)
    (party : Row → ℕ) (known : (r : Row) → SoundRecord b.head.count r → party r < b.head.count) (ending : Row → Row) where
  pub ended-kept : ((r : Row) → length r ≡ 160 → SoundRecord b.head.count r →
      (length (ending r) ≡ 160) × SoundEnded b.head.count (ending r)) →
      is_done (payee_rules (held_transfer b id) sender by_state) ≡ true → shape (ended_at b (slot_of b id) party ending) ≡ true
  ended-kept ok e =
      let k = slot_of b id in
      let r = row b.opened k in
      let l = done_taken b s sender id by_state ends e in
      let body = (held_open b s id l).body in
      let v = ok r (length-row b.opened k (in_open b s k l)) body in
      shape_of (ended_at b k party ending) (ending_sound b s k l (holding b s id l) (party r) (known r body) wide (ending r) v.0 v.1)

-- a call leaves a book of the shape, if what it leaves where it is done is one
done_by_rules : (x y : Bool) (a : Answer) → is_done (cond x OutOfShape (cond (not y) NotInForm a)) ≡ true → (is_done a ≡ true) × (y ≡ true)
done_by_rules true y a e = clash e
done_by_rules false true a e = (e, refl)
done_by_rules false false a e = clash e

pub step_kept : (b after : Book) (c : Call) → shape b ≡ true →
    (is_done (rules (seen b) c) ≡ true → in_form c ≡ true → shape after ≡ true) → shape (replied b c after).left ≡ true
step_kept b after c s kept = by (is_done (answer_to (seen b) c)) refl
  where
    by : (t : Bool) → is_done (answer_to (seen b) c) ≡ t → shape (cond t after b) ≡ true
    by true e =
        let f = done_by_rules (tests_shape c && not (shape b)) (in_form c) (rules (seen b) c) e in
        kept f.0 f.1
    by false e = s
