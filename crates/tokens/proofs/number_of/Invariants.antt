use Rattle.std.proofs.Common.{◌≡◌, take}
use Rattle.octets.specs.Decimal.{decimal}
use Rattle.tokens.proofs.number_of.Given as goal

abbrev pub invariant-loop-c : goal.invariant-loop-c
invariant-loop-c l = l.code ≡ decimal (take l.c-index l.s)
