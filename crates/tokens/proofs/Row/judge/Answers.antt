-- `Row::judge` meets its contract: the verdict on the bytes to come is the verdict on the whole text.
use Rattle.std.proofs.Common.{sym, ◌∙◌, rules}
use Rattle.tokens.proofs.Rows.{stops_here, goes_on, too_short, long_enough}
use Rattle.tokens.proofs.Row.judge.Goals as goal

pub returns-then-not-may_stand : goal.returns-then-not-may_stand
returns-then-not-may_stand c =
    let a = c.args in
    let l = c.loop-i in
    stops_here a.self.now a.s.now l.i _ l.invariant c.loop-i-test.true (sym c.may_stand.ensures ∙ c.if-not-may_stand.true)

pub loop-i-preserved : goal.loop-i-preserved
loop-i-preserved c =
    let a = c.args in
    let l = c.loop-i in
    goes_on a.self.now a.s.now l.i _ l.invariant c.loop-i-test.true (sym c.may_stand.ensures ∙ c.if-not-may_stand.false)

pub returns-then-s-self : goal.returns-then-s-self
returns-then-s-self c =
    let a = c.args in
    let l = c.loop-i in
    too_short a.self.now a.s.now l.i _ l.invariant (search rules) (search rules) c.if-s-self.true

pub returns : goal.returns
returns c =
    let a = c.args in
    let l = c.loop-i in
    long_enough a.self.now a.s.now l.i _ l.invariant (search rules) (search rules) c.if-s-self.false
