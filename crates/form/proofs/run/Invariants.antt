use mathlib.Core.Path.{◌≡◌}
use lib.ListN.{drop}
use Rattle.form.specs.Machine.{machine}
use Rattle.form.proofs.run.Given as goal

abbrev pub invariant-loop-i : goal.invariant-loop-i
invariant-loop-i l = machine l.class l.next l.i l.q (drop l.i l.s) ≡ machine l.class l.next 0 0 l.s
