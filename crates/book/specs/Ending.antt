-- How a transfer ends (01, "The two books": "An ended record moves to the next place of the finished book").
use Rattle.std.specs.Prelude.{ℕ, ◌+◌, ◌*◌}
use Rattle.std.proofs.lemmas.List.Edits.{sets}
use Rattle.octets.specs.Parts.{zeros}
use Rattle.amount.specs.declared.Amount.{Amount}
use Rattle.account.specs.declared.Head.{Head}
use Rattle.account.specs.Position.{lowered_by}
use Rattle.account.specs.Head.{account_at, with_position}
use Rattle.record.specs.Layout.{Row, num, units_field, remainder_field}
use Rattle.record.specs.Rows.{row}
use Rattle.shape.specs.Reading.{Book}

abbrev pub amount_in : Row → Amount
amount_in r = record { units = num units_field r; remainder = num remainder_field r }

abbrev pub with_finished : Head → ℕ → Head
with_finished h n = record {
  accounts = h.accounts;
  count = h.count;
  currency = h.currency;
  time = h.time;
  slots = h.slots;
  places = h.places;
  finished = n;
}

-- "the payee's position falls by the amount", "the payer's position falls": that of account i; one record more is finished
unfoldable pub settled : Head → ℕ → Row → Head
settled h i r = with_finished (with_position h i (lowered_by (account_at h i).position (amount_in r))) (h.finished + 1)

-- the record of slot k ends: "a freed slot is all zeros", and the next place of the finished book has the record as it ended
abbrev pub ended_at : Book → ℕ → (Row → ℕ) → (Row → Row) → Book
ended_at b k party ending = record {
  head = settled b.head (party (row b.opened k)) (row b.opened k);
  opened = sets b.opened (k * 160) (zeros 160);
  ended = sets b.ended (b.head.finished * 160) (ending (row b.opened k));
}
