-- `matching`: the bytes that are compared are the condition.
use Rattle.record.specs.Layout.{get}
use Rattle.octets.proofs.Equal.{same_by_pairs}
use Rattle.fulfil.proofs.matching.Goals as goal

pub returns-then-eq : goal.returns-then-eq
unfolding get
returns-then-eq c = rw (← c.hash.ensures, ← same_by_pairs, ← c.eq.ensures, c.if-eq.true)

pub returns-else-eq : goal.returns-else-eq
unfolding get
returns-else-eq c = rw (← c.hash.ensures, ← same_by_pairs, ← c.eq.ensures, c.if-eq.false)
