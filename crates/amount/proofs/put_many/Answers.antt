-- `amount::put_many` meets its contract: its tables pass the test at each number below 100.
use native.Mathlib.Omega.{arith}
use mathlib.Core.Path.{refl, ◌∙◌}
use Rattle.amount.proofs.Digits.{tables, from_start}
use Rattle.amount.proofs.put_many.Goals as goal

pub put_pairs-requires : goal.put_pairs-requires
put_pairs-requires c = (omega arith, omega arith, tables refl refl tt tt)

pub returns : goal.returns
returns c =
    let a = c.args in
    c.put_pairs.ensures ∙ from_start a.out.now a.whole a.units
