-- What the theorem takes of the calls: each accepted call's change of a book's transfers and members, and that a head keeps its places.
use Prim.Native.Nat.{ℕ}
use mathlib.Core.Path.{◌≡◌}
use mathlib.Core.Bool.{true}
use mathlib.Core.List.{List}
use mathlib.Core.Option.{some}
use lib.ListN.{length}
use Rattle.uuid_text.specs.Id.{id_of}
use Rattle.datetime.specs.Instant.{instant_of}
use Rattle.rules.specs.Answers.{is_done}
use Rattle.rules.specs.Calls.{Text, PrepareText, condition_of, code_of}
use Rattle.rules.specs.View.{Transfer, committed, aborted}
use Rattle.shape.specs.Reading.{Book, held_transfer}
use Rattle.shape.specs.Shape.{shape}
use Rattle.open_book.specs.Effect.{open_step}
use Rattle.join.specs.Effect.{join_step}
use Rattle.prepare.specs.Effect.{prepare_step}
use Rattle.fulfil.specs.Effect.{fulfil_step}
use Rattle.abort.specs.Effect.{abort_step}
use Rattle.time.specs.Effect.{time_step}
use Rattle.ledger.specs.Laws.{SeenIn, Opened, Joined, Prepared, Ended, Swept}

-- a head of 32 account places
abbrev pub wide : Book → Type 0
wide b = length b.head.accounts ≡ 32

pub record CallLaws : Type 0 where
  pub seen_in : (b : Book) → shape b ≡ true → wide b → SeenIn b
  pub opened : (b : Book) (currency instant : Text) → is_done (open_step b currency instant).answer ≡ true →
      Opened (open_step b currency instant).left
  pub joined : (b : Book) → shape b ≡ true → wide b → (name cap : Text) → is_done (join_step b name cap).answer ≡ true →
      Joined b (join_step b name cap).left name cap
  pub prepared : (b : Book) → shape b ≡ true → wide b → (p : PrepareText) → is_done (prepare_step b p).answer ≡ true →
      Prepared b (prepare_step b p).left p
  pub fulfilled : (b : Book) → shape b ≡ true → wide b → (sender id fulfilment : Text) →
      is_done (fulfil_step b sender id fulfilment).answer ≡ true → (t : Transfer) → held_transfer b (id_of id) ≡ some t →
      Ended b (fulfil_step b sender id fulfilment).left t (committed (condition_of fulfilment)) t.content.payee
  pub aborted : (b : Book) → shape b ≡ true → wide b → (sender id code : Text) →
      is_done (abort_step b sender id code).answer ≡ true → (t : Transfer) → held_transfer b (id_of id) ≡ some t →
      Ended b (abort_step b sender id code).left t (aborted (code_of code)) t.content.payer
  pub swept : (b : Book) → shape b ≡ true → wide b → (list : List ℕ) (instant : Text) →
      is_done (time_step b list instant).outcome.answer ≡ true → Swept b (time_step b list instant).outcome.left (instant_of instant)
  pub open_wide : (b : Book) (currency instant : Text) → is_done (open_step b currency instant).answer ≡ true →
      wide (open_step b currency instant).left
  pub join_wide : (b : Book) → shape b ≡ true → wide b → (name cap : Text) → wide (join_step b name cap).left
  pub prepare_wide : (b : Book) → shape b ≡ true → wide b → (p : PrepareText) → wide (prepare_step b p).left
  pub fulfil_wide : (b : Book) → shape b ≡ true → wide b → (sender id fulfilment : Text) →
      wide (fulfil_step b sender id fulfilment).left
  pub abort_wide : (b : Book) → shape b ≡ true → wide b → (sender id code : Text) →
      wide (abort_step b sender id code).left
  pub time_wide : (b : Book) → shape b ≡ true → wide b → (list : List ℕ) (instant : Text) →
      wide (time_step b list instant).outcome.left
