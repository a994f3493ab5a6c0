use lib.ListN.{drop}
use Rattle.amount.specs.Rest.{places_rest}
use Rattle.amount.proofs.Turns.{Reading}
use Rattle.amount.proofs.after_point.Given as goal

abbrev pub invariant-loop-i : goal.invariant-loop-i
invariant-loop-i l =
    Reading (places_rest 4 46 l.from l.units 0 (drop l.from l.s)) l.s l.units l.remainder l.weight l.last l.i
