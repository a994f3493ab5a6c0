-- What a call can see of a book: the View of the rules.
use Rattle.rules.specs.View.{View}
use Rattle.shape.specs.Reading.{Book, account_of, held_transfer, open_count, due_rows, numbers_of}
use Rattle.shape.specs.Shape.{shape}

abbrev pub seen : Book → View
seen b = record {
  shaped = shape b;
  currency = b.head.currency;
  clock = b.head.time;
  accounts = b.head.count;
  account = account_of b;
  held = held_transfer b;
  slots = b.head.slots;
  opened = open_count b;
  places = b.head.places;
  ended = b.head.finished;
  due = λ t. numbers_of (due_rows t b);
}
