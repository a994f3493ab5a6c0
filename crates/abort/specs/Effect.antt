-- Abort: "RESERVED: aborted with that code, the payer's position falls".
use Rattle.octets.specs.Parts.{zeros}
use Rattle.uuid_text.specs.Id.{id_of}
use Rattle.record.specs.Layout.{num, ended_row, payer_field}
use Rattle.rules.specs.Calls.{Text, abort, code_of}
use Rattle.shape.specs.Reading.{Book}
use Rattle.book.specs.Step.{Outcome, replied, slot_of}
use Rattle.book.specs.Ending.{ended_at}

-- "state: .. 4 ABORTED", "ended by: .. 2 payee's abort", "fulfilment, zeros if none"
unfoldable pub abort_step : Book → Text → Text → Text → Outcome
abort_step b sender id code =
    replied b (abort sender id code) (ended_at b (slot_of b (id_of id)) (num payer_field) (ended_row 4 2 (code_of code) (zeros 32)))
