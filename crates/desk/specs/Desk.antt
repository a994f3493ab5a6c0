-- What a line answers and leaves: the call that its word names, on the fields that follow.
use Rattle.std.specs.Prelude.{ℕ, ◌+◌, cond, List, [], ◌∷◌, Option, Some, None, eqb, pos, length, get_or}
use Rattle.octets.specs.Parts.{zeros}
use Rattle.account.specs.declared.Head.{Head}
use Rattle.rules.specs.declared.Answer.TheVariants.{NotInForm}
use Rattle.rules.specs.Calls.{Text, PrepareText}
use Rattle.lines.specs.Lines.{pieces}
use Rattle.shape.specs.Reading.{Book}
use Rattle.book.specs.Step.{Outcome, book_of}
use Rattle.open_book.specs.Effect.{fresh_head, open_step}
use Rattle.join.specs.Effect.{join_step}
use Rattle.prepare.specs.Effect.{prepare_step}
use Rattle.fulfil.specs.Effect.{fulfil_step}
use Rattle.abort.specs.Effect.{abort_step}
use Rattle.time.specs.Effect.{TimeOutcome, time_step}
use Rattle.desk.specs.declared.Reply.{Reply}
use Rattle.desk.specs.declared.words.Word.{Word}
use Rattle.desk.specs.declared.words.Word.TheVariants.{Open, Join, Prepare, Fulfil, Abort, Time}
use Rattle.desk.specs.Words.{word_of, fields_in}

-- the outcome of the call, the lent list, and how many of its numbers are printed
pub record LineOutcome : Type 0 where
  pub outcome : Outcome
  pub list : List ℕ
  pub listed : ℕ

-- a call that has nothing to do with the list
abbrev pub beside : List ℕ → Outcome → LineOutcome
beside list o = record { outcome = o; list = list; listed = 0 }

-- "for time as many of the list's numbers as the mark says"
abbrev pub timed : TimeOutcome → LineOutcome
timed t = record { outcome = t.outcome; list = t.list; listed = t.outcome.mark }

-- "a line not so built answers 1", and so does one that is not a word and its fields
abbrev pub no_call : Book → List ℕ → LineOutcome
no_call b list = beside list (record { answer = NotInForm; mark = 0; left = b })

-- the fields in the order of 01's example; field 1 is the first
abbrev pub prepare_text : (ℕ → Text) → PrepareText
prepare_text field = record {
  id = field 1;
  payer = field 2;
  payee = field 3;
  currency = field 4;
  amount = field 5;
  condition = field 6;
  expiration = field 7;
  packet = field 8;
}

unfoldable pub called : Book → List ℕ → Word → (ℕ → Text) → LineOutcome
called b list Open field = beside list (open_step b (field 1) (field 2))
called b list Join field = beside list (join_step b (field 1) (field 2))
called b list Prepare field = beside list (prepare_step b (prepare_text field))
called b list Fulfil field = beside list (fulfil_step b (field 1) (field 2) (field 3))
called b list Abort field = beside list (abort_step b (field 1) (field 2) (field 3))
called b list Time field = timed (time_step b list (field 1))

-- the call that the first word names, if as many fields follow as it has
unfoldable pub call_on : Book → List ℕ → Option Word → List Text → LineOutcome
call_on b list None words = no_call b list
call_on b list (Some w) words =
    cond (eqb (length words) (fields_in w + 1)) (called b list w (λ k. get_or words k [])) (no_call b list)

-- the words of a line; a line that is not well built has none
unfoldable pub line_step : Book → List ℕ → List Text → LineOutcome
line_step b list [] = no_call b list
line_step b list (word ∷ fields) = call_on b list (word_of word) (word ∷ fields)

-- the head of a book that was never opened
abbrev pub never_opened : Head
never_opened = fresh_head (zeros 3) (pos 0) 0 0

-- a field of a line that is well built, its word with them: piece k
abbrev pub field_of : List ℕ → ℕ → Text
field_of line k = get_or (pieces line) k []

-- what the code hands back, beside the bytes of the two books and the list
abbrev pub line_outcome : Reply → List ℕ → List ℕ → List ℕ → LineOutcome
line_outcome r opened ended list = record {
  outcome = record { answer = r.answer; mark = r.mark; left = book_of r.head opened ended };
  list = list;
  listed = r.listed;
}
