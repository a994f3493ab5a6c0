-- `run`: what the buffer holds lies within it.
use Rattle.std.proofs.Common.{◌≤◌, length}
use Rattle.switch.proofs.Switch.run.Given as goal

abbrev pub invariant-loop : goal.invariant-loop
invariant-loop l = l.have ≤ length l.buf
