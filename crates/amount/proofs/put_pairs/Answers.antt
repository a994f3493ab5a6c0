-- `amount::put_pairs` meets its contract: the stores to come make of the buffer what all stores make of the one lent.
use Prim.Native.Nat.{◌%◌}
use mathlib.Core.Path.{refl, ◌∙◌}
use native.Mathlib.Omega.{arith}
use lib.ListN.{length-set}
use Rattle.amount.proofs.Digits.{fill_pair, fill_last, fill_none}
use Rattle.amount.proofs.put_pairs.Goals as goal

pub loop-k-init : goal.loop-k-init
loop-k-init c = (omega arith, omega arith, refl, refl)

pub bounds-ones-pair : goal.bounds-ones-pair
bounds-ones-pair c = omega (arith, c.requires.2.ones_long)

pub bounds-tens-pair : goal.bounds-tens-pair
bounds-tens-pair c = omega (arith, c.requires.2.tens_long)

pub bounds-out-k-in-loop-k : goal.bounds-out-k-in-loop-k
bounds-out-k-in-loop-k c = simp length-set (omega arith)

pub loop-k-preserved : goal.loop-k-preserved
loop-k-preserved c =
    let a = c.args in
    let l = c.loop-k in
    let t = c.requires.2 in (
      omega arith,
      omega arith,
      simp length-set l.invariant.2,
      rw (t.one (l.rest % 100) (omega arith), t.ten (l.rest % 100) (omega arith))
          (fill_pair l.out a.from l.k l.rest (omega arith) ∙ l.invariant.3),
    )

pub shape_of-out-then-from-k : goal.shape_of-out-then-from-k
shape_of-out-then-from-k c = simp length-set c.loop-k.invariant.2

pub returns-then-from-k : goal.returns-then-from-k
returns-then-from-k c =
    let l = c.loop-k in
    fill_last l.out c.args.from l.k l.rest (omega arith) (omega arith) ∙ l.invariant.3

pub returns-else-from-k : goal.returns-else-from-k
returns-else-from-k c =
    let l = c.loop-k in
    fill_none l.out c.args.from l.k l.rest (omega arith) ∙ l.invariant.3
