-- `passes_cap`: the raised position is not at most the cap.
use mathlib.Core.Path.{ap, ◌∙◌}
use mathlib.Core.Bool.{not}
use Rattle.account.specs.Head.{account_at}
use Rattle.account.proofs.Positions.{held_remainder}
use Rattle.prepare.proofs.Tests.{above_cap}
use Rattle.prepare.proofs.passes_cap.Goals as goal

pub is_at_most-requires : goal.is_at_most-requires
is_at_most-requires c = (rw c.raised.ensures (held_remainder _), c.requires.cap)

pub returns : goal.returns
returns c =
    let a = c.args in
    let payer = account_at a.h a.payer in
    ap not c.is_at_most.ensures ∙ rw c.raised.ensures (above_cap payer.position a.c.amount payer.cap)
