use Rattle.uuid_text.specs.Row.{Walked}
use Rattle.uuid_text.proofs.first_wrong.Given as goal

abbrev pub invariant-loop-place : goal.invariant-loop-place
invariant-loop-place l = Walked l.s l.start l.place l.first
