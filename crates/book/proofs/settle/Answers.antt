-- `settle`: the definition is the code, with what the calls ensure.
use Rattle.book.specs.Ending.{settled as settled_head}
use Rattle.book.proofs.settle.Goals as goal

pub returns : goal.returns
unfolding settled_head
returns c =
    let amount = c.amount_of.ensures in
    rw (c.with_position-next.ensures, c.lowered-position.ensures, amount.0, amount.1)
