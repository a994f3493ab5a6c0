-- The calls other than open, as values: what is said of them all is said once.
use Rattle.std.specs.Prelude.{ℕ, ◌≡◌, List}
use Rattle.rules.specs.Calls.{Text, PrepareText}
use Rattle.shape.specs.Reading.{Book}
use Rattle.book.specs.Step.{Outcome}
use Rattle.join.specs.Effect.{join_step}
use Rattle.prepare.specs.Effect.{prepare_step}
use Rattle.fulfil.specs.Effect.{fulfil_step}
use Rattle.abort.specs.Effect.{abort_step}
use Rattle.time.specs.Effect.{time_step}
use Rattle.lookup.specs.Effect.{lookup_step}
use Rattle.vaikshurd.specs.Packed.{number_in}
use Rattle.vaikshurd.specs.Face.{Left, called, opening}

pub data FaceCall : Type 0 where
  join : (name cap : Text) → FaceCall
  prepare : PrepareText → FaceCall
  fulfil : (sender id fulfilment : Text) → FaceCall
  abort : (sender id code : Text) → FaceCall
  time : (list : List ℕ) (instant : Text) → FaceCall
  lookup : (id : Text) → FaceCall

abbrev pub step_of : FaceCall → Book → Outcome
step_of (join name cap) b = join_step b name cap
step_of (prepare p) b = prepare_step b p
step_of (fulfil sender id fulfilment) b = fulfil_step b sender id fulfilment
step_of (abort sender id code) b = abort_step b sender id code
step_of (time list instant) b = (time_step b list instant).outcome
step_of (lookup id) b = lookup_step b id

-- what head and books hold after an accepted open and any calls, each lent what the one before left
pub data Reached : Left → Type 0 where
  opens : (head opened ended : List ℕ) (currency instant : Text) → number_in (opening head opened ended currency instant).answer ≡ 0 →
      Reached (opening head opened ended currency instant)
  again : {l : Left} → Reached l → (currency instant : Text) → Reached (opening l.head l.opened l.ended currency instant)
  calls : {l : Left} → Reached l → (c : FaceCall) → Reached (called l.head l.opened l.ended (step_of c))
