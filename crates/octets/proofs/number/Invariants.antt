use Rattle.std.proofs.Common.{◌≡◌, take}
use Rattle.octets.specs.Numbers.{number as number_in}
use Rattle.octets.proofs.number.Given as goal

abbrev pub invariant-loop-b : goal.invariant-loop-b
invariant-loop-b l = l.n ≡ number_in (take l.b-index l.b-items)
