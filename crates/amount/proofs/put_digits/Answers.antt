-- `amount::put_digits` meets its contract: the stores to come make of the buffer what all stores make of the one lent.
use mathlib.Core.Path.{◌∙◌}
use native.Mathlib.Omega.{arith}
use lib.ListN.{length-set}
use Rattle.amount.proofs.Digits.{fill_at}
use Rattle.amount.proofs.put_digits.Goals as goal

pub loop-k-preserved : goal.loop-k-preserved
loop-k-preserved c =
    let l = c.loop-k in
    (simp length-set l.invariant.0, fill_at l.out c.args.from l.k l.rest (omega arith) ∙ l.invariant.1)
