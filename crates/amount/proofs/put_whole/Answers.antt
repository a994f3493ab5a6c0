-- `amount::put_whole` meets its contract: either way it is its callee's.
use mathlib.Core.Path.{◌∙◌}
use Rattle.amount.proofs.Digits.{from_start}
use Rattle.amount.proofs.put_whole.Goals as goal

pub returns-then-whole-lt9 : goal.returns-then-whole-lt9
returns-then-whole-lt9 c =
    let a = c.args in
    c.put_digits.ensures ∙ from_start a.out.now a.whole a.units
