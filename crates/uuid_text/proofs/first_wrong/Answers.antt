-- `first_wrong` meets its contract: at each place the walk is over the places before.
use Rattle.std.proofs.Common.{arith, rules, sym, ◌∙◌, inl, inr}
use Rattle.uuid_text.proofs.Walk.{begun, found_by, onward}
use Rattle.uuid_text.proofs.first_wrong.Goals as goal
use Rattle.uuid_text.proofs.first_wrong.Goals.{then-may_stand, else-may_stand}

pub loop-place-init : goal.loop-place-init
loop-place-init c = begun _ _

pub loop-place-preserved : goal.loop-place-preserved
loop-place-preserved c =
    let l = c.loop-place in
    let stands = rw c.from.ensures at c.may_stand.ensures in
    let wrong = found_by _ l.place c.if-may_stand.wrong (elim c.if-may_stand.branch [
      | then-may_stand w ↦ inl (sym stands ∙ w.if-may_stand.true, w.wrong-is)
      | else-may_stand w ↦ inr (sym stands ∙ w.if-may_stand.false, w.wrong-is)
    ]) in
    onward _ _ l.place l.first c.if-may_stand.wrong c.min-first.result l.invariant wrong (search rules)

pub returns : goal.returns
returns c =
    let w = c.loop-place.invariant in
    record { within = w.within; before = λ j h l. w.before j h (omega arith); wrong = w.wrong }
