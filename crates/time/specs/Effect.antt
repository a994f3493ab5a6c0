-- Time: "Else every RESERVED transfer with expiration <= the new time is ABORTED with 3303, in ascending acceptance number (ties by
-- slot). The list gets these numbers; its other places keep what they held."
use Rattle.std.specs.Prelude.{ℕ, ◌*◌, ◌/◌, cond, List, [], ◌∷◌, ◌++◌, map, ℤ, length}
use Rattle.std.proofs.lemmas.List.Edits.{sets}
use Rattle.octets.specs.Numbers.{big_endian}
use Rattle.octets.specs.Parts.{zeros}
use Rattle.datetime.specs.Instant.{instant_of}
use Rattle.account.specs.declared.Head.{Head}
use Rattle.record.specs.Layout.{Row, num, ended_row, payer_field, number_field}
use Rattle.rules.specs.Answers.{is_done}
use Rattle.rules.specs.Calls.{Text, time}
use Rattle.rules.specs.Rules.{answer_to}
use Rattle.shape.specs.Reading.{Book, open_rows, is_due, due_rows}
use Rattle.shape.specs.Seen.{seen}
use Rattle.book.specs.Step.{Outcome, replied}
use Rattle.book.specs.Ending.{settled}

-- lists of bytes, one after the other
unfoldable pub together : List (List ℕ) → List ℕ
together [] = []
together (x ∷ xs) = x ++ together xs

-- "state: .. 4 ABORTED", "ended by: .. 3 expiry"
abbrev pub expired_row : Row → Row
expired_row r = ended_row 4 3 3303 (zeros 32) r

-- the slots of transfers that are due are freed
abbrev pub freed : ℤ → Row → Row
freed t r = cond (is_due t r) (zeros 160) r

-- each payer's position falls, and the records are finished
unfoldable pub settled_all : Head → List Row → Head
settled_all h [] = h
settled_all h (r ∷ rs) = settled_all (settled h (num payer_field r) r) rs

abbrev pub at_time : ℤ → Head → Head
at_time t h = record {
  accounts = h.accounts;
  count = h.count;
  currency = h.currency;
  time = t;
  slots = h.slots;
  places = h.places;
  finished = h.finished;
}

unfoldable pub expired : Book → ℤ → Book
expired b t = record {
  head = at_time t (settled_all b.head (due_rows t b));
  opened = together (map (freed t) (open_rows b));
  ended = sets b.ended (b.head.finished * 160) (together (map expired_row (due_rows t b)));
}

-- "a place of the time list is 4 bytes (a shorter rest is none)"
abbrev pub places_in : List ℕ → ℕ
places_in list = length list / 4

abbrev pub number_place : Row → List ℕ
number_place r = big_endian 4 (num number_field r)

pub record TimeOutcome : Type 0 where
  pub outcome : Outcome
  pub list : List ℕ

unfoldable pub time_step : Book → List ℕ → Text → TimeOutcome
time_step b list instant = record {
  outcome = replied b (time instant (places_in list)) (expired b (instant_of instant));
  list = cond (is_done (answer_to (seen b) (time instant (places_in list))))
      (sets list 0 (together (map number_place (due_rows (instant_of instant) b)))) list;
}
