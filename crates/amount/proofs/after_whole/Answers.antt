-- `amount::after_whole` meets its contract: the steps of the form where no digit may come.
use borrow.Author.Rules.{rules}
use mathlib.Core.Path.{◌∙◌}
use Rattle.amount.proofs.Turns.{whole-end_at, whole_point_at, whole-other_at}
use Rattle.amount.proofs.after_whole.Goals as goal

pub returns-in-None : goal.returns-in-None
returns-in-None c = let a = c.args in whole-end_at a.s.now a.end a.units (search rules) (search rules)

pub returns-in-Some-eq46 : goal.returns-in-Some-eq46
returns-in-Some-eq46 c =
    let a = c.args in
    c.after_point.ensures ∙ whole_point_at a.s.now a.end a.units (search rules) (search rules)

pub returns-in-Some : goal.returns-in-Some
returns-in-Some c = let a = c.args in whole-other_at a.s.now a.end a.units (search rules) (search rules)
