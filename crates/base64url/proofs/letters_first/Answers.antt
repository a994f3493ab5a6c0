-- `letters_first` meets its contract: the letters passed and those to come are the letters of the whole text.
use Rattle.std.proofs.Common.{arith, ◌∙◌, ◌≡◌, length, take}
use Rattle.base64url.proofs.Count.{count_to, count-goes, count-stops, count_ends}
use Rattle.base64url.proofs.letters_first.Goals as goal

pub loop-i-init : goal.loop-i-init
loop-i-init c = c.fours_first-i.ensures.passed ∙ count_to c.args.most _ c.args.s.now c.min.ensures

pub returns-then-value_of-ge64 : goal.returns-then-value_of-ge64
returns-then-value_of-ge64 c =
    let l = c.loop-i in
    count-stops _ _ l.i _ l.invariant c.loop-i-test.true c.loop-i-test.true (rw c.value_of.ensures at c.if-value_of-ge64.true)

pub loop-i-preserved : goal.loop-i-preserved
loop-i-preserved c =
    let l = c.loop-i in
    count-goes _ _ l.i _ l.invariant c.loop-i-test.true c.loop-i-test.true (rw c.value_of.ensures at c.if-value_of-ge64.false)

pub returns : goal.returns
returns c =
    let l = c.loop-i in
    let text = take c.min.result c.args.s.now in
    let e : l.i ≡ length text = omega (arith, c.fours_first-i.ensures.within, l.auto.i-end, c.loop-i-test.false) in
    rw e at (count_ends _ _ l.i _ l.invariant c.loop-i-test.false)
