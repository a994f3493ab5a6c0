-- The laws of the calls are proved: nothing is assumed.
use Prim.Native.Nat.{ℕ}
use mathlib.Core.Path.{◌≡◌}
use mathlib.Core.Bool.{true}
use mathlib.Core.List.{List, ◌∷◌}
use Rattle.rules.specs.Answers.{is_done}
use Rattle.rules.specs.Calls.{Text}
use Rattle.shape.specs.Reading.{Book}
use Rattle.open_book.specs.Effect.{open_step}
use Rattle.ledger.proofs.Theorems as ledger
use Rattle.recount.specs.History.{Came, «open», replies_of, is_accepted}
use Rattle.recount.specs.Recount.{Past, recount_of}
use Rattle.recount.specs.Demand.{Demand3}
use Rattle.recount.specs.Mission.{Mission}
use Rattle.recount.proofs.Given.{CallLaws}
use Rattle.recount.proofs.FromLaws as goal

pub call_laws : CallLaws
call_laws = record {
  seen_in = ledger.seen_in;
  opened = ledger.opened;
  joined = ledger.joined;
  prepared = ledger.prepared;
  fulfilled = ledger.fulfilled;
  aborted = ledger.aborted;
  swept = ledger.swept;
  open_wide = ledger.open_wide;
  join_wide = λ b e w. ledger.join_wide b w;
  prepare_wide = λ b e w. ledger.prepare_wide b w;
  fulfil_wide = λ b e w. ledger.fulfil_wide b w;
  abort_wide = λ b e w. ledger.abort_wide b w;
  time_wide = λ b e w. ledger.time_wide b w;
}

pub demand3 : (b : Book) (currency instant : Text) → is_done (open_step b currency instant).answer ≡ true →
    (calls : List Came) → Demand3 b currency instant calls
demand3 = goal.demand3 call_laws

pub mission : (b : Book) (currency instant : Text) → is_done (open_step b currency instant).answer ≡ true →
    Mission (open_step b currency instant).left
mission = goal.mission call_laws

-- "histories are read from the last accepted one": whatever the book and the past were before an accepted open
pub from_open : (b : Book) (p : Past) (currency instant : Text) (opened ended : List ℕ) →
    is_accepted b («open» currency instant opened ended) ≡ true → (calls : List Came) →
    replies_of b («open» currency instant opened ended ∷ calls) ≡ recount_of p («open» currency instant opened ended ∷ calls)
from_open = goal.from_open call_laws
