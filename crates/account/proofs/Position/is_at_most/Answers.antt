-- `is_at_most` gives the order of the values: by the sign, then by the units and the remainders.
use Rattle.std.proofs.Common.{◌∙◌, rules}
use Rattle.account.proofs.Positions.{within_negative, within_order}
use Rattle.account.proofs.Position.is_at_most.Goals as goal

pub returns-then-self-lt0 : goal.returns-then-self-lt0
returns-then-self-lt0 c = within_negative c.args.self c.args.a (search rules) c.requires.0 c.if-self-lt0.true

pub returns : goal.returns
returns c =
    c.le.ensures
    ∙ within_order c.args.self c.args.a (search rules) c.requires.0 _ c.cast_unsigned-whole.ensures c.if-self-lt0.false c.requires.1
