-- Join: "an FSP gets an account"; "An account has a name, a cap .. and a position, 0 at joining".
use Rattle.std.specs.Prelude.{◌+◌, ◌-◌, ◌++◌, pos, length, set}
use Rattle.octets.specs.Parts.{zeros}
use Rattle.amount.specs.Amount.{ten_thousandths, amount_of}
use Rattle.account.specs.declared.Account.{Account}
use Rattle.account.specs.declared.Head.{Head}
use Rattle.rules.specs.Calls.{Text, join}
use Rattle.shape.specs.Reading.{Book}
use Rattle.book.specs.Step.{Outcome, replied}

abbrev pub new_account : Text → Text → Account
new_account name cap = record {
  name = name ++ zeros (32 - length name);
  length = length name;
  cap = amount_of (ten_thousandths cap);
  position = record { units = pos 0; remainder = 0 };
}

-- into the first account place that is not in use
unfoldable pub with_account : Head → Account → Head
with_account h a = record {
  accounts = set h.accounts h.count a;
  count = h.count + 1;
  currency = h.currency;
  time = h.time;
  slots = h.slots;
  places = h.places;
  finished = h.finished;
}

unfoldable pub join_step : Book → Text → Text → Outcome
join_step b name cap =
    replied b (join name cap) (record { head = with_account b.head (new_account name cap); opened = b.opened; ended = b.ended })
