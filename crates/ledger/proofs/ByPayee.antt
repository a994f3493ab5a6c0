-- A fulfil or an abort that is done ends the transfer that the book holds under the id.
use Prim.Native.Nat.{ℕ, ◌<◌}
use mathlib.Core.Path.{◌≡◌, refl, ap, sym, subst, ◌∙◌}
use mathlib.Core.Bool.{true, ◌&&◌}
use mathlib.Core.List.{List, []}
use mathlib.Core.Option.{some}
use lib.ListN.{length, get_or}
use borrow.Author.Tests.{lt-ltb}
use Rattle.octets.specs.Parts.{zeros}
use Rattle.octets.proofs.Stores.{length-zeros}
use Rattle.form.specs.Listings.{name_form, id_form, code_form}
use Rattle.uuid_text.specs.Id.{id_of}
use Rattle.record.specs.Layout.{Row, num, ended_row, payer_field, payee_field}
use Rattle.record.specs.Rows.{row}
use Rattle.rules.specs.declared.Answer.{Answer}
use Rattle.rules.specs.Answers.{is_done}
use Rattle.rules.specs.Calls.{Text, fulfil, abort, is_of, condition_of, code_of}
use Rattle.rules.specs.View.{State, reserved, committed, aborted, Transfer}
use Rattle.rules.specs.Rules.{payee_rules}
use Rattle.shape.specs.Reading.{Book, names_of, transfer_of, map_some, held_transfer}
use Rattle.shape.specs.Sound.{Sound, SoundRecord}
use Rattle.octets.proofs.Tests.{both}
use Rattle.std.specs.Prelude.{Some}
use Rattle.book.specs.declared.Place.TheVariants.{Opened}
use Rattle.book.specs.Step.{slot_of, where_is}
use Rattle.book.specs.Ending.{ended_at}
use Rattle.book.specs.Inner.{row_at}
use Rattle.book.proofs.Held.{held_at}
use Rattle.book.proofs.Decisions.{done_taken, holding, held_open}
use Rattle.fulfil.specs.Effect.{fulfil_step}
use Rattle.fulfil.specs.Inner.{committed_at, by_state as on_fulfil}
use Rattle.fulfil.proofs.States.{ends as fulfil-ends}
use Rattle.fulfil.proofs.Texts.{fulfilment_long}
use Rattle.abort.specs.Effect.{abort_step}
use Rattle.abort.specs.Inner.{aborted_at, by_state as on_abort}
use Rattle.abort.proofs.States.{ends as abort-ends}
use Rattle.ledger.specs.Laws.{Ended}
use Rattle.ledger.proofs.Done.{done-rules, done-left, left-wide}
use Rattle.ledger.proofs.Texts.{code_small}
use Rattle.ledger.proofs.Records.{EndsIn, ends_committed, ends_aborted}
use Rattle.ledger.proofs.Ended.{settled-wide, ended_law}

-- the transfer of an id that is in the open book is that of its slot's record
held-slot : (b : Book) (id : List ℕ) → slot_of b id < b.head.slots →
    held_transfer b id ≡ some (transfer_of (names_of b.head) (row b.opened (slot_of b id)))
held-slot b id h =
    let place : where_is b id ≡ Some (Opened (slot_of b id)) = rw (lt-ltb (slot_of b id) b.head.slots h) in
    ap (map_some (transfer_of (names_of b.head))) (held_at b id ∙ ap (row_at b) place)

-- only a RESERVED transfer ends, and a party of it is told by the record's account number
module _
    (b : Book) (s : Sound b) (wide : length b.head.accounts ≡ 32) (sender id : List ℕ) (by_state : Transfer → Answer)
    (reserved-only : (t : Transfer) → is_done (by_state t) ≡ true → t.state ≡ reserved) (party : Row → ℕ)
    (known : (r : Row) → SoundRecord b.head.count r → party r < b.head.count) (name : Transfer → List ℕ)
    (named : (r : Row) → name (transfer_of (names_of b.head) r) ≡ get_or (names_of b.head) (party r) []) where
  by_payee_lem : (ending : Row → Row) (state : State) → EndsIn (names_of b.head) ending state →
      is_done (payee_rules (held_transfer b id) sender by_state) ≡ true →
      (t : Transfer) → held_transfer b id ≡ some t → Ended b (ended_at b (slot_of b id) party ending) t state (name t)
  by_payee_lem ending state ends done t e =
      let k = slot_of b id in
      let r = row b.opened k in
      let l = done_taken b s sender id by_state reserved-only done in
      let held = held-slot b id l in
      let t-is : transfer_of (names_of b.head) r ≡ t = cc in
      subst (λ (t : Transfer). Ended b (ended_at b k party ending) t state (name t)) t-is
      (rw (named r) (ended_law b s wide k l (holding b s id l) party (known r (held_open b s id l).body) ending state ends))

-- "commit: the payee's position falls by the amount"
module _ (b : Book) (wide : length b.head.accounts ≡ 32) (sender id fulfilment : Text) where
  abbrev fulfilled : Book
  fulfilled = committed_at b (slot_of b (id_of id)) (condition_of fulfilment)

  pub fulfil_wide_lem : length (fulfil_step b sender id fulfilment).left.head.accounts ≡ 32
  unfolding fulfil_step
  fulfil_wide_lem = left-wide b fulfilled (fulfil sender id fulfilment) wide (settled-wide b.head _ _ wide)

  pub fulfil_law : Sound b → is_done (fulfil_step b sender id fulfilment).answer ≡ true →
      (t : Transfer) → held_transfer b (id_of id) ≡ some t →
      Ended b (fulfil_step b sender id fulfilment).left t (committed (condition_of fulfilment)) t.content.payee
  unfolding fulfil_step transfer_of
  fulfil_law s done t e =
      let call = fulfil sender id fulfilment in
      let p = done-rules b fulfilled call done in
      let bytes = condition_of fulfilment in
      let ends = ends_committed (names_of b.head) bytes (fulfilment_long sender id fulfilment p.1) in
      subst (λ (c : Book). Ended b c t (committed bytes) t.content.payee) (sym (done-left b fulfilled call done))
      (by_payee_lem b s wide sender (id_of id) (on_fulfil bytes) (fulfil-ends bytes) (num payee_field) (λ r o. o.payee)
      (λ u. u.content.payee) (λ r. refl) (ended_row 3 1 0 bytes) (committed bytes) ends p.0 t e)

-- "aborted with that code, the payer's position falls"
module _ (b : Book) (wide : length b.head.accounts ≡ 32) (sender id code : Text) where
  abbrev aborted_left : Book
  aborted_left = aborted_at b (slot_of b (id_of id)) (code_of code)

  pub abort_wide_lem : length (abort_step b sender id code).left.head.accounts ≡ 32
  unfolding abort_step
  abort_wide_lem = left-wide b aborted_left (abort sender id code) wide (settled-wide b.head _ _ wide)

  pub abort_law : Sound b → is_done (abort_step b sender id code).answer ≡ true →
      (t : Transfer) → held_transfer b (id_of id) ≡ some t →
      Ended b (abort_step b sender id code).left t (aborted (code_of code)) t.content.payer
  unfolding abort_step transfer_of
  abort_law s done t e =
      let call = abort sender id code in
      let p = done-rules b aborted_left call done in
      let n = code_of code in
      let two = (both (is_of name_form sender) (is_of id_form id && is_of code_form code) p.1).1 in
      let small = code_small code (both (is_of id_form id) (is_of code_form code) two).1 in
      let ends = ends_aborted (names_of b.head) (zeros 32) (length-zeros 32) n small in
      subst (λ (c : Book). Ended b c t (aborted n) t.content.payer) (sym (done-left b aborted_left call done))
      (by_payee_lem b s wide sender (id_of id) (on_abort n) (abort-ends n) (num payer_field) (λ r o. o.payer)
      (λ u. u.content.payer) (λ r. refl) (ended_row 4 2 n (zeros 32)) (aborted n) ends p.0 t e)
