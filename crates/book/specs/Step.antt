-- What a call leaves: its answer and mark by the rules, and the book, changed only where the answer is 0.
use Rattle.std.specs.Prelude.{ℕ, cond, List, ltb, Option, Some, None}
use Rattle.octets.specs.Lists.{index}
use Rattle.account.specs.declared.Head.{Head}
use Rattle.record.specs.Layout.{Row}
use Rattle.record.specs.Rows.{row, holds}
use Rattle.rules.specs.declared.Answer.{Answer}
use Rattle.rules.specs.Answers.{is_done}
use Rattle.rules.specs.Calls.{Call}
use Rattle.rules.specs.Rules.{answer_to, mark_to}
use Rattle.shape.specs.Reading.{Book, open_rows, ended_rows}
use Rattle.shape.specs.Seen.{seen}
use Rattle.book.specs.declared.Answered.{Answered}
use Rattle.book.specs.declared.Place.{Place}
use Rattle.book.specs.declared.Place.TheVariants.{Opened, Ended}

pub record Outcome : Type 0 where
  pub answer : Answer
  pub mark : ℕ
  pub left : Book

-- the head and the two lent books as one
abbrev pub book_of : Head → List ℕ → List ℕ → Book
book_of h opened ended = record { head = h; opened = opened; ended = ended }

-- what the code hands back, beside the bytes of the two books
abbrev pub outcome : Answered → List ℕ → List ℕ → Outcome
outcome r opened ended = record { answer = r.answer; mark = r.mark; left = book_of r.head opened ended }

-- "All but 0 change nothing lent and no state"
abbrev pub replied : Book → Call → Book → Outcome
replied b c after = record {
  answer = answer_to (seen b) c;
  mark = mark_to (seen b) c;
  left = cond (is_done (answer_to (seen b) c)) after b;
}

-- the slot of the open book, and the place of the finished book, that hold an id; past the end where none does
abbrev pub slot_of : Book → List ℕ → ℕ
slot_of b id = index (holds id) (open_rows b)

abbrev pub place_of : Book → List ℕ → ℕ
place_of b id = index (holds id) (ended_rows b)

-- "in whichever of the two books holds it": "the open book's lowest slot counts first, then the lowest finished place"
abbrev pub where_is : Book → List ℕ → Option Place
where_is b id =
    cond (ltb (slot_of b id) b.head.slots) (Some (Opened (slot_of b id)))
    (cond (ltb (place_of b id) b.head.finished) (Some (Ended (place_of b id))) None)

-- "that record's own 160 bytes, in whichever of the two books holds it"
abbrev pub record_in : List ℕ → List ℕ → Place → Row
record_in opened ended (Opened k) = row opened k
record_in opened ended (Ended k) = row ended k
