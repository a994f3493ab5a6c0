-- `amount::read_amount` meets its contract: the first byte decides, and what comes after the whole part.
use borrow.Author.Rules.{rules}
use Rattle.amount.proofs.Turns.{begin_nothing, begin_other}
use Rattle.amount.proofs.read_amount.Goals as goal

pub returns-in_default : goal.returns-in_default
returns-in_default c = begin_other c.args.s.now (search rules) (search rules)

pub returns-in_default-2 : goal.returns-in_default-2
returns-in_default-2 c = begin_other c.args.s.now (search rules) (search rules)

pub returns-in_default-3 : goal.returns-in_default-3
returns-in_default-3 c = begin_nothing c.args.s.now (search rules)
