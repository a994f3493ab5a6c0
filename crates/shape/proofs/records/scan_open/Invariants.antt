use Rattle.shape.proofs.Slots.{Counted}
use Rattle.shape.proofs.records.scan_open.Given as goal

abbrev pub invariant-loop-row : goal.invariant-loop-row
invariant-loop-row l = Counted l.accounts l.slots l.row-index l.taken l.reserved
