-- What the exported calls leave: the answer, and each lent byte (01, "The switch's part": "There the head is a lent byte slice in a form
-- kept in docs/ (another length or form: 21, at open another length: 20)").
use Rattle.std.specs.Prelude.{ℕ, ◌+◌, ◌*◌, cond, List, eqb, length, Option, Some, None}
use Rattle.account.specs.declared.Head.{Head}
use Rattle.head_form.specs.Form.{head_bytes, head_from, is_formed}
use Rattle.rules.specs.declared.Answer.{Answer}
use Rattle.rules.specs.declared.Answer.TheVariants.{NotInForm, BadLengths, OutOfShape}
use Rattle.rules.specs.Answers.{is_done}
use Rattle.rules.specs.Calls.{Text, in_form, «open»}
use Rattle.shape.specs.Reading.{Book}
use Rattle.book.specs.declared.Place.{Place}
use Rattle.book.specs.declared.Place.TheVariants.{Opened, Ended}
use Rattle.book.specs.Step.{Outcome, book_of}
use Rattle.open_book.specs.Effect.{open_step}
use Rattle.time.specs.Effect.{time_step}
use Rattle.lookup.specs.Effect.{lookup_place}
use Rattle.vaikshurd.specs.Packed.{word}

-- the answer, and the bytes of head, open book and finished book
pub record Left : Type 0 where
  pub answer : ℕ
  pub head : List ℕ
  pub opened : List ℕ
  pub ended : List ℕ

abbrev pub left : ℕ → List ℕ → List ℕ → List ℕ → Left
left a head opened ended = record { answer = a; head = head; opened = opened; ended = ended }

-- the head's bytes are written where the call is accepted
abbrev pub head_left : List ℕ → Answer → Head → List ℕ
head_left head a next = cond (is_done a) (head_bytes next) head

abbrev pub after_step : List ℕ → Outcome → Left
after_step head r =
    left (word r.answer r.mark) (head_left head r.answer r.left.head) r.left.opened r.left.ended

-- the head and the two books that are lent
abbrev pub lent : List ℕ → List ℕ → List ℕ → Book
lent head opened ended = book_of (head_from head) opened ended

-- a call on a head of the form; "another length or form: 21"
unfoldable pub called : List ℕ → List ℕ → List ℕ → (Book → Outcome) → Left
called head opened ended step =
    cond (is_formed head) (after_step head (step (lent head opened ended))) (left (word OutOfShape 0) head opened ended)

-- "at open another length: 20", after 1
abbrev pub other_length : Text → Text → Answer
other_length currency instant = cond (in_form («open» currency instant 0 0)) BadLengths NotInForm

-- no form is asked of the head's bytes, and what they were does not count
unfoldable pub opening : List ℕ → List ℕ → List ℕ → Text → Text → Left
opening head opened ended currency instant =
    cond (eqb (length head) 2080) (after_step head (open_step (lent head opened ended) currency instant))
    (left (word (other_length currency instant) 0) head opened ended)

-- the list that a time leaves
unfoldable pub list_left : List ℕ → List ℕ → List ℕ → List ℕ → Text → List ℕ
list_left head opened ended list instant = cond (is_formed head) (time_step (lent head opened ended) list instant).list list

-- "a lookup gives book and offset": the book in bits 32 to 63, 1 open and 2 finished, the record's first byte in bits 0 to 31; 0 refused
abbrev pub place_word : Option Place → ℕ
place_word (Some (Opened k)) = 4294967296 + k * 160
place_word (Some (Ended k)) = 8589934592 + k * 160
place_word None = 0

unfoldable pub place_left : List ℕ → List ℕ → List ℕ → Text → ℕ
place_left head opened ended id = place_word (cond (is_formed head) (lookup_place (lent head opened ended) id) None)
