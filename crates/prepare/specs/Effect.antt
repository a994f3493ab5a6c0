-- Prepare: "A prepare writes its record from the first byte of the lowest free slot of the open book"; "the payer's position rises by
-- the amount".
use Rattle.std.specs.Prelude.{ℕ, suc, ◌+◌, ◌*◌}
use Rattle.std.proofs.lemmas.List.Edits.{sets}
use Rattle.octets.specs.Lists.{index}
use Rattle.amount.specs.Amount.{ten_thousandths, amount_of}
use Rattle.uuid_text.specs.Id.{id_of}
use Rattle.datetime.specs.Instant.{instant_of}
use Rattle.account.specs.declared.Head.{Head}
use Rattle.account.specs.Position.{raised_by}
use Rattle.account.specs.Head.{place_of, account_at, with_position}
use Rattle.record.specs.declared.Content.{Content}
use Rattle.record.specs.Layout.{new_row, is_free}
use Rattle.rules.specs.Calls.{PrepareText, prepare, condition_of, packet_hash}
use Rattle.shape.specs.Reading.{Book, open_rows, open_count}
use Rattle.book.specs.Step.{Outcome, replied}

-- the values that the record holds
unfoldable pub values_of : PrepareText → Content
values_of p = record {
  id = id_of p.id;
  amount = amount_of (ten_thousandths p.amount);
  condition = condition_of p.condition;
  expiration = instant_of p.expiration;
  packet = packet_hash p.packet;
}

abbrev pub free_slot : Book → ℕ
free_slot b = index is_free (open_rows b)

-- "A new acceptance number is one more than the records in both books"
abbrev pub new_number : Book → ℕ
new_number b = suc (open_count b + b.head.finished)

unfoldable pub raised : Head → ℕ → Content → Head
raised h i c = with_position h i (raised_by (account_at h i).position c.amount)

unfoldable pub reserved : Book → PrepareText → Book
reserved b p = record {
  head = raised b.head (place_of b.head p.payer) (values_of p);
  opened = sets b.opened (free_slot b * 160)
      (new_row (values_of p) (place_of b.head p.payer) (place_of b.head p.payee) (new_number b));
  ended = b.ended;
}

unfoldable pub prepare_step : Book → PrepareText → Outcome
prepare_step b p = replied b (prepare p) (reserved b p)
