-- Open: "Gives the currency and the first book time. Refused, it gives back the head it was given."
use Rattle.std.specs.Prelude.{ℕ, ◌/◌, List, ℤ, pos, length, replicate}
use Rattle.octets.specs.Parts.{zeros}
use Rattle.datetime.specs.Instant.{instant_of}
use Rattle.account.specs.declared.Account.{Account}
use Rattle.account.specs.declared.Head.{Head}
use Rattle.rules.specs.Calls.{Text, «open»}
use Rattle.shape.specs.Reading.{Book}
use Rattle.book.specs.Step.{Outcome, replied}

-- "Opening fills both and the account places with zeros"
abbrev pub blank_account : Account
blank_account = record {
  name = zeros 32;
  length = 0;
  cap = record { units = 0; remainder = 0 };
  position = record { units = pos 0; remainder = 0 };
}

abbrev pub fresh_head : List ℕ → ℤ → ℕ → ℕ → Head
fresh_head currency clock slots places =
    record {
      accounts = replicate 32 blank_account;
      count = 0;
      currency = currency;
      time = clock;
      slots = slots;
      places = places;
      finished = 0;
    }

unfoldable pub fresh_book : Book → Text → Text → Book
fresh_book b currency instant =
    record {
      head = fresh_head currency (instant_of instant) (length b.opened / 160) (length b.ended / 160);
      opened = zeros (length b.opened);
      ended = zeros (length b.ended);
    }

unfoldable pub open_step : Book → Text → Text → Outcome
open_step b currency instant = replied b («open» currency instant (length b.opened) (length b.ended)) (fresh_book b currency instant)
