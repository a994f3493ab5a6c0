-- What the inner functions of an abort go by; no public promise cites these.
use Rattle.std.specs.Prelude.{ℕ}
use Rattle.octets.specs.Parts.{zeros}
use Rattle.record.specs.Layout.{num, ended_row, payer_field}
use Rattle.rules.specs.declared.Answer.{Answer}
use Rattle.rules.specs.View.{Transfer}
use Rattle.rules.specs.Rules.{abort_state}
use Rattle.shape.specs.Reading.{Book}
use Rattle.book.specs.Ending.{ended_at}

-- the answer by the state
abbrev pub by_state : ℕ → Transfer → Answer
by_state code t = abort_state t.state code

-- the book when the record of a slot is aborted with a code
abbrev pub aborted_at : Book → ℕ → ℕ → Book
aborted_at b slot code = ended_at b slot (num payer_field) (ended_row 4 2 code (zeros 32))
