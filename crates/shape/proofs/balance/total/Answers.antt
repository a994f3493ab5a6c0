-- `total`: one position more.
use Rattle.std.proofs.Common.{◌≤◌, ◌*◌, ◌^◌, ◌<◌, ◌∙◌, length, to_z, sym, arith}
use Rattle.std.proofs.lemmas.Int.{ints}
use mir.Syntax.{w128}
use lib.Signed.{mag}
use Rattle.account.specs.Head.{accounts_of}
use Rattle.shape.proofs.Bounds.{total_more, below_more, out_of_reach, in_reach, sum_is, sum_small}
use Rattle.shape.proofs.balance.total.Goals as goal

pub returns-then-below-gt-MOST_BELOW : goal.returns-then-below-gt-MOST_BELOW
returns-then-below-gt-MOST_BELOW c =
    let l = c.loop-a in
    out_of_reach (accounts_of c.args.h) l.a-index l.below l.invariant.downs (rw c.from.ensures at c.loop-a-test.true)
    (omega (arith, rw (c.units_below-below.ensures.lies, c.from.ensures) at c.if-below-gt-MOST_BELOW.true))

pub loop-a-preserved : goal.loop-a-preserved
loop-a-preserved c =
    let k = c.loop-a.a-index in
    let s = to_z w128 c.loop-a.sum-bits in
    let xs = accounts_of c.args.h in
    let inside : k < length xs = rw c.from.ensures at c.loop-a-test.true in
    let small : mag s ≤ k * 2 ^ 79 = omega (arith, ints) in
    let e = sum_is s c.value-sum.result k (omega arith) small c.value-sum.ensures.small in
    record {
      sums = e ∙ rw (c.loop-a.invariant.sums, c.value-sum.ensures.value, c.from.ensures) (sym (total_more xs k inside));
      small = rw e (sum_small s c.value-sum.result k (omega arith) small c.value-sum.ensures.small);
      downs = rw (c.units_below-below.ensures.lies, c.from.ensures) (below_more xs k c.loop-a.below c.loop-a.invariant.downs inside);
      low = omega (arith, c.if-below-gt-MOST_BELOW.false);
    }

pub returns : goal.returns
returns c =
    let l = c.loop-a in
    in_reach (accounts_of c.args.h) l.a-index l.below (to_z w128 l.sum-bits) l.invariant.sums l.invariant.downs l.invariant.low
    (rw c.from.ensures at c.loop-a-test.false)
