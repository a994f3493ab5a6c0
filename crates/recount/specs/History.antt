-- A history: the calls as they came, any bytes, and what the book's own calls make of them. This is the book's side of demand 3: the head
-- and both lent books, by the definitions that the calls' promises cite. Nothing is recounted here.
use Rattle.std.specs.Prelude.{ℕ, Bool, true, false, cond, not, ◌&&◌, List, [], ◌∷◌, length}
use Rattle.rules.specs.declared.Answer.{Answer}
use Rattle.rules.specs.Answers.{is_done}
use Rattle.rules.specs.Calls.{Text, PrepareText, Call}
use Rattle.rules.specs.Calls as rules
use Rattle.shape.specs.Reading.{Book}
use Rattle.book.specs.Step.{Outcome, book_of}
use Rattle.open_book.specs.Effect.{open_step}
use Rattle.join.specs.Effect.{join_step}
use Rattle.prepare.specs.Effect.{prepare_step}
use Rattle.fulfil.specs.Effect.{fulfil_step}
use Rattle.abort.specs.Effect.{abort_step}
use Rattle.time.specs.Effect.{time_step, places_in}
use Rattle.lookup.specs.Effect.{lookup_step}

-- a call as it comes: its texts, any bytes, and the slices that it is lent beside the book, at open the two books, at time the list
pub data Came : Type 0 where
  «open» : (currency instant : Text) (opened ended : List ℕ) → Came
  join : (name cap : Text) → Came
  prepare : PrepareText → Came
  fulfil : (sender id fulfilment : Text) → Came
  abort : (sender id code : Text) → Came
  time : (instant : Text) (list : List ℕ) → Came
  lookup : (id : Text) → Came

-- the call that the rules judge: of the lent books they see the lengths, of the lent list how many places it has
abbrev pub call_of : Came → Call
call_of («open» currency instant opened ended) = rules.«open» currency instant (length opened) (length ended)
call_of (join name cap) = rules.join name cap
call_of (prepare p) = rules.prepare p
call_of (fulfil sender id fulfilment) = rules.fulfil sender id fulfilment
call_of (abort sender id code) = rules.abort sender id code
call_of (time instant list) = rules.time instant (places_in list)
call_of (lookup id) = rules.lookup id

-- the list that a call is lent; a time alone has one
abbrev pub lent_list : Came → List ℕ
lent_list («open» currency instant opened ended) = []
lent_list (join name cap) = []
lent_list (prepare p) = []
lent_list (fulfil sender id fulfilment) = []
lent_list (abort sender id code) = []
lent_list (time instant list) = list
lent_list (lookup id) = []

-- what a caller is told: the answer, which has its number and code, the mark, and the bytes of the lent list
pub record Reply : Type 0 where
  pub answer : Answer
  pub mark : ℕ
  pub list : List ℕ

abbrev pub told : Outcome → List ℕ → Reply
told r list = record { answer = r.answer; mark = r.mark; list = list }

-- what the calls' promises say of a call on a book: the book that is left ..
abbrev pub left_by : Book → Came → Book
left_by b («open» currency instant opened ended) =
    let r = open_step (book_of b.head opened ended) currency instant in
    -- refused, it changes nothing that it was lent and gives back the head: the host still has the book that it had
    cond (is_done r.answer) r.left b
left_by b (join name cap) = (join_step b name cap).left
left_by b (prepare p) = (prepare_step b p).left
left_by b (fulfil sender id fulfilment) = (fulfil_step b sender id fulfilment).left
left_by b (abort sender id code) = (abort_step b sender id code).left
left_by b (time instant list) = (time_step b list instant).outcome.left
left_by b (lookup id) = (lookup_step b id).left

-- .. and what the caller is told
abbrev pub told_by : Book → Came → Reply
told_by b («open» currency instant opened ended) = told (open_step (book_of b.head opened ended) currency instant) []
told_by b (join name cap) = told (join_step b name cap) []
told_by b (prepare p) = told (prepare_step b p) []
told_by b (fulfil sender id fulfilment) = told (fulfil_step b sender id fulfilment) []
told_by b (abort sender id code) = told (abort_step b sender id code) []
told_by b (time instant list) = told (time_step b list instant).outcome (time_step b list instant).list
told_by b (lookup id) = told (lookup_step b id) []

-- the book after a list of calls, and what each caller was told
unfoldable pub book_after : Book → List Came → Book
book_after b [] = b
book_after b (c ∷ cs) = book_after (left_by b c) cs

unfoldable pub replies_of : Book → List Came → List Reply
replies_of b [] = []
replies_of b (c ∷ cs) = told_by b c ∷ replies_of (left_by b c) cs

-- a call that the book itself answers with 0; such an open starts a new book
abbrev pub is_accepted : Book → Came → Bool
is_accepted b c = is_done (told_by b c).answer

abbrev pub reopens : Book → Came → Bool
reopens b («open» currency instant opened ended) = is_accepted b («open» currency instant opened ended)
reopens b (join name cap) = false
reopens b (prepare p) = false
reopens b (fulfil sender id fulfilment) = false
reopens b (abort sender id code) = false
reopens b (time instant list) = false
reopens b (lookup id) = false

-- no call of a list is an accepted open
unfoldable pub none_reopens : Book → List Came → Bool
none_reopens b [] = true
none_reopens b (c ∷ cs) = not (reopens b c) && none_reopens (left_by b c) cs
