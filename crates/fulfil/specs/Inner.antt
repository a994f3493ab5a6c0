-- What the inner functions of a fulfil go by; no public promise cites these.
use Rattle.std.specs.Prelude.{ℕ, List}
use Rattle.record.specs.Layout.{num, ended_row, payee_field}
use Rattle.rules.specs.declared.Answer.{Answer}
use Rattle.rules.specs.View.{Transfer}
use Rattle.rules.specs.Rules.{fulfil_state}
use Rattle.shape.specs.Reading.{Book}
use Rattle.book.specs.Ending.{ended_at}

-- the answer by the state
abbrev pub by_state : List ℕ → Transfer → Answer
by_state fulfilment t = fulfil_state t.state t.content fulfilment

-- the book when the record of a slot is committed by a fulfilment
abbrev pub committed_at : Book → ℕ → List ℕ → Book
committed_at b slot fulfilment = ended_at b slot (num payee_field) (ended_row 3 1 0 fulfilment)
