-- A line in, a line out: what the answer to a line prints, and what the line leaves.
use Rattle.std.specs.Prelude.{ℕ, ◌≡◌, false, List}
use Rattle.rules.specs.Answers.{number, code}
use Rattle.shape.specs.Reading.{Book}
use Rattle.book.specs.Step.{book_of}
use Rattle.lines.specs.Lines.{words_of}
use Rattle.desk.specs.Desk.{LineOutcome, line_step}
use Rattle.answer_line.specs.Text.{answer_text}
use Rattle.switch.specs.declared.Switch.{Switch}

-- the book and the list that a line leaves, and the line that is printed
pub record Printed : Type 0 where
  pub left : Book
  pub list : List ℕ
  pub text : List ℕ

abbrev pub printed : LineOutcome → Printed
printed o = record {
  left = o.outcome.left;
  list = o.list;
  text = answer_text (number o.outcome.answer) (code o.outcome.answer) o.outcome.mark o.list o.listed;
}

unfoldable pub answered : Book → List ℕ → List ℕ → Printed
answered b list line = printed (line_step b list (words_of line))

-- the book that the program holds
abbrev pub book : Switch → Book
book s = book_of s.head s.opened s.ended

-- what the program holds after a line, beside the text of the answer
abbrev pub printed_of : Switch → List ℕ → Printed
printed_of s text = record { left = book s; list = s.list; text = text }

-- after a line: the book and the list are those that the line leaves
pub record Served (p : Printed) (s : Switch) : Type 0 where
  pub left : book s ≡ p.left
  pub numbers : s.list ≡ p.list
  pub skips : s.skips ≡ false
