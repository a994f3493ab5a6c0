-- `two_digits`: by what the two bytes show.
use mathlib.Core.Path.{sym, ◌∙◌}
use Prim.Native.Nat.{◌+◌}
use lib.ListN.{get_or}
use Rattle.datetime.proofs.Passed.{not-shown}
use Rattle.datetime.proofs.reader.two_digits.Goals.{then-i-s+in-Some+else-least-v, then-i-s+in_default, else-i-s}
use Rattle.datetime.proofs.Steps.{found, missed, not_in, two_none}
use Rattle.datetime.proofs.reader.two_digits.Goals as goal

pub returns-then-least-v-clause-value : goal.returns-then-least-v-clause-value
returns-then-least-v-clause-value c =
    let a = c.args in
    found a.s.now a.i a.least a.most c.in-Some.v (sym c.two.ensures ∙ c.in-Some.is) c.if-least-v.true

pub returns-clause-value : goal.returns-clause-value
returns-clause-value c =
    let a = c.args in
    missed a.s.now a.i a.least a.most c.pair_stop.result
    (elim c.if-i-s.branch [
      | then-i-s+in-Some+else-least-v w ↦ not_in a.s.now a.i a.least a.most w.in-Some.v (sym w.two.ensures ∙ w.in-Some.is) w.if-least-v.false
      | then-i-s+in_default w ↦ two_none (get_or a.s.now a.i 0) (get_or a.s.now (a.i + 1) 0) a.least a.most c.requires.2 (sym w.two.ensures ∙ w.in_default.is)
      | else-i-s w ↦ sym (not-shown a.s.now a.i a.least a.most c.requires.2 w.if-i-s.false)
    ])
    c.pair_stop.ensures
