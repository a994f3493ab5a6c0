-- Lookup: "A lookup copies nothing: the answer is that record's own 160 bytes, in whichever of the two books holds it; refused, an empty
-- part. Number and part may be asked for apart."
use Rattle.std.specs.Prelude.{ℕ, cond, List, [], Option, Some, None}
use Rattle.uuid_text.specs.Id.{id_of}
use Rattle.rules.specs.Answers.{is_done}
use Rattle.rules.specs.Calls.{Text, lookup}
use Rattle.rules.specs.Rules.{answer_to}
use Rattle.shape.specs.Reading.{Book}
use Rattle.shape.specs.Seen.{seen}
use Rattle.book.specs.Step.{Outcome, replied, where_is, record_in}
use Rattle.book.specs.declared.Place.{Place}

unfoldable pub lookup_step : Book → Text → Outcome
lookup_step b id = replied b (lookup id) b

-- where the record is; nowhere where the call is refused
unfoldable pub lookup_place : Book → Text → Option Place
lookup_place b id = cond (is_done (answer_to (seen b) (lookup id))) (where_is b (id_of id)) None

-- a record's own bytes
abbrev pub part_at : Book → Option Place → List ℕ
part_at b (Some p) = record_in b.opened b.ended p
part_at b None = []
