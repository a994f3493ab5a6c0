-- What each accepted call changes of a book's transfers and members, proved of the calls' own definitions on bytes, for books of the shape
-- with 32 account places; what a call sees of such a book; and that each call leaves 32 account places.
use Prim.Native.Nat.{ℕ}
use mathlib.Core.Path.{◌≡◌}
use mathlib.Core.Bool.{true}
use mathlib.Core.List.{List}
use mathlib.Core.Option.{some}
use lib.ListN.{length}
use Rattle.uuid_text.specs.Id.{id_of}
use Rattle.datetime.specs.Instant.{instant_of}
use Rattle.rules.specs.Answers.{is_done}
use Rattle.rules.specs.Calls.{Text, PrepareText, condition_of, code_of}
use Rattle.rules.specs.View.{Transfer, committed as committed_by, aborted as aborted_with}
use Rattle.shape.specs.Reading.{Book, held_transfer}
use Rattle.shape.specs.Shape.{shape}
use Rattle.shape.proofs.Sound.{sound}
use Rattle.open_book.specs.Effect.{open_step}
use Rattle.join.specs.Effect.{join_step}
use Rattle.prepare.specs.Effect.{prepare_step}
use Rattle.fulfil.specs.Effect.{fulfil_step}
use Rattle.abort.specs.Effect.{abort_step}
use Rattle.time.specs.Effect.{time_step}
use Rattle.ledger.specs.Laws.{SeenIn, Opened, Joined, Prepared, Ended, Swept}
use Rattle.ledger.proofs.Reading.{seen_in_lem}
use Rattle.ledger.proofs.Opened.{open_law, open_wide_lem}
use Rattle.ledger.proofs.Joined.{join_law, join_wide_lem}
use Rattle.ledger.proofs.Prepared.{prepare_law, prepare_wide_lem}
use Rattle.ledger.proofs.ByPayee.{fulfil_law, fulfil_wide_lem, abort_law, abort_wide_lem}
use Rattle.ledger.proofs.Swept.{time_law, time_wide_lem}

-- a head of 32 account places
abbrev pub wide : Book → Type 0
wide b = length b.head.accounts ≡ 32

module _ (b : Book) (currency instant : Text) (done : is_done (open_step b currency instant).answer ≡ true) where
  pub opened : Opened (open_step b currency instant).left
  opened = open_law b currency instant done

  pub open_wide : wide (open_step b currency instant).left
  open_wide = open_wide_lem b currency instant done

module _ (b : Book) (e : shape b ≡ true) (w : wide b) where
  pub seen_in : SeenIn b
  seen_in = seen_in_lem b (sound b w e)

  pub joined : (name cap : Text) → is_done (join_step b name cap).answer ≡ true → Joined b (join_step b name cap).left name cap
  joined name cap done = join_law b w name cap (sound b w e) done

  pub prepared : (p : PrepareText) → is_done (prepare_step b p).answer ≡ true → Prepared b (prepare_step b p).left p
  prepared p done = prepare_law b w p (sound b w e) e done

  pub fulfilled : (sender id fulfilment : Text) → is_done (fulfil_step b sender id fulfilment).answer ≡ true →
      (t : Transfer) → held_transfer b (id_of id) ≡ some t →
      Ended b (fulfil_step b sender id fulfilment).left t (committed_by (condition_of fulfilment)) t.content.payee
  fulfilled sender id fulfilment done t held = fulfil_law b w sender id fulfilment (sound b w e) done t held

  pub aborted : (sender id code : Text) → is_done (abort_step b sender id code).answer ≡ true →
      (t : Transfer) → held_transfer b (id_of id) ≡ some t →
      Ended b (abort_step b sender id code).left t (aborted_with (code_of code)) t.content.payer
  aborted sender id code done t held = abort_law b w sender id code (sound b w e) done t held

  pub swept : (list : List ℕ) (instant : Text) → is_done (time_step b list instant).outcome.answer ≡ true →
      Swept b (time_step b list instant).outcome.left (instant_of instant)
  swept list instant done = time_law b w list instant (sound b w e) done

-- done or refused, and whether of the shape or not
module _ (b : Book) (w : wide b) where
  pub join_wide : (name cap : Text) → wide (join_step b name cap).left
  join_wide name cap = join_wide_lem b w name cap

  pub prepare_wide : (p : PrepareText) → wide (prepare_step b p).left
  prepare_wide p = prepare_wide_lem b w p

  pub fulfil_wide : (sender id fulfilment : Text) → wide (fulfil_step b sender id fulfilment).left
  fulfil_wide sender id fulfilment = fulfil_wide_lem b w sender id fulfilment

  pub abort_wide : (sender id code : Text) → wide (abort_step b sender id code).left
  abort_wide sender id code = abort_wide_lem b w sender id code

  pub time_wide : (list : List ℕ) (instant : Text) → wide (time_step b list instant).outcome.left
  time_wide list instant = time_wide_lem b w list instant
