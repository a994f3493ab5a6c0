-- `with_account`: the definition is the code.
use Rattle.join.specs.Effect.{with_account}
use Rattle.join.proofs.with_account.Goals as goal

pub returns : goal.returns
unfolding with_account
returns c = rw (c.padded.ensures, c.from.ensures)
