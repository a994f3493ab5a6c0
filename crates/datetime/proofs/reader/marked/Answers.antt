-- `marked`: by the mark.
use Rattle.datetime.specs.Reading.{marked}
use Rattle.datetime.proofs.Steps.{stands, lacks}
use Rattle.datetime.proofs.reader.marked.Goals as goal

pub returns-then-at-mark-clause-value : goal.returns-then-at-mark-clause-value
unfolding marked
returns-then-at-mark-clause-value c = rw (lacks c.at.ensures.0 c.if-at-mark.true)

pub returns-clause-value : goal.returns-clause-value
unfolding marked
returns-clause-value c = rw (stands c.at.ensures.0 c.if-at-mark.false) c.two_digits.ensures.value
