-- `sha256::schedule::begun` meets its contract: the words are written one after the other.
use Rattle.std.proofs.Common.{refl, rules}
use Rattle.sha256.specs.Sha256.{schedule}
use Rattle.sha256.proofs.Turns.{first_word}
use Rattle.sha256.proofs.schedule.begun.Goals as goal

pub loop-t-init : goal.loop-t-init
unfolding schedule
loop-t-init c = (refl, refl)

pub loop-t-preserved : goal.loop-t-preserved
loop-t-preserved c = (search rules, search (rules, first_word))
