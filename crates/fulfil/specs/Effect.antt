-- Fulfil: "commit: the payee's position falls by the amount".
use Rattle.uuid_text.specs.Id.{id_of}
use Rattle.record.specs.Layout.{num, ended_row, payee_field}
use Rattle.rules.specs.Calls.{Text, fulfil, condition_of}
use Rattle.shape.specs.Reading.{Book}
use Rattle.book.specs.Step.{Outcome, replied, slot_of}
use Rattle.book.specs.Ending.{ended_at}

-- "state: .. 3 COMMITTED", "ended by: .. 1 fulfilment", "error code, 0 if none"
unfoldable pub fulfil_step : Book → Text → Text → Text → Outcome
fulfil_step b sender id fulfilment =
    replied b (fulfil sender id fulfilment) (ended_at b (slot_of b (id_of id)) (num payee_field) (ended_row 3 1 0 (condition_of fulfilment)))
