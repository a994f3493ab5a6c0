-- The rules of each call, its checks in the order and words of 01 ("Rules of each call, checks in this order").
use Rattle.std.specs.Prelude.{ℕ, suc, ◌+◌, ◌/◌, ◌%◌, Bool, true, false, cond, not, ◌&&◌, ◌||◌, List, [], ◌∷◌, eqb, leb, ltb, length, ℤ, pos, ◌+ℤ◌}
use Rattle.std.proofs.Math.Option.{Option, none, some}
use Rattle.std.specs.Int.Signed.{le_z, lt_z}
use Rattle.octets.specs.Parts.{same}
use Rattle.amount.specs.Amount.{ten_thousandths}
use Rattle.uuid_text.specs.Id.{id_of}
use Rattle.datetime.specs.Instant.{instant_of}
use Rattle.rules.specs.declared.Answer.{Answer}
use Rattle.rules.specs.declared.Answer.TheVariants.{Done, NotInForm, NoPayer, NoPayee, PayerIsPayee, OtherCurrency, OtherContent, Expired, OpenBookFull, NoPlaceLeft, CapPassed, UnknownId, NotThePayee, EndedAnotherWay, NoMatch, ClockGoesBack, ListTooShort, NameHeld, AccountsFull, CapTooHigh, BadLengths, OutOfShape, Resend}
use Rattle.rules.specs.Answers.{is_done}
use Rattle.rules.specs.Calls.{Content, Call, «open», join, prepare, fulfil, abort, time, lookup, in_form, condition_of, condition_for, content_of, code_of}
use Rattle.rules.specs.View.{State, reserved, committed, aborted, expired, Transfer, Standing, View}

-- a check and the answer that it gives; the first that holds counts
pub record Check : Type 0 where
  pub holds : Bool
  pub answer : Answer

infixr 6 ◌gives◌
abbrev pub ◌gives◌ : Bool → Answer → Check
b gives a = record { holds = b; answer = a }

abbrev pub first_of : List Check → Answer → Answer
first_of [] otherwise = otherwise
first_of (c ∷ cs) otherwise = cond c.holds c.answer (first_of cs otherwise)

abbrev pub exists : {A : Type 0} → Option A → Bool
exists none = false
exists (some a) = true

-- equal instants
abbrev pub sameℤ : ℤ → ℤ → Bool
sameℤ z w = le_z z w && le_z w z

-- "a cap (at most 10^17 units)", in ten-thousandths
abbrev pub highest_cap : ℕ
highest_cap = 1000000000000000000000

-- "The host lends an open book (1 to 1,024 records) and a finished book (1 to 65,535)": of so many bytes
abbrev pub length_for : ℕ → ℕ → Bool
length_for most n = eqb (n % 160) 0 && (leb 1 (n / 160) && leb (n / 160) most)

-- "24 when payer, payee, amount, condition bytes, expiration instant and packet hash are equal, else 6"
abbrev pub same_content : Content → Content → Bool
same_content c d =
    same c.payer d.payer && (same c.payee d.payee && (eqb c.amount d.amount
    && (same c.condition d.condition && (sameℤ c.expiration d.expiration && same c.packet d.packet))))

-- "10 if position + amount > cap"
abbrev pub passes_cap : Option Standing → ℕ → Bool
passes_cap none x = false
passes_cap (some s) x = lt_z (pos s.cap) (s.position +ℤ pos x)

-- "Open: 1, 20."
abbrev pub open_rules : ℕ → ℕ → Answer
open_rules open_length finished_length = first_of (
    (not (length_for 1024 open_length && length_for 65535 finished_length) gives BadLengths)
    ∷ []) Done

module _ (v : View) where
  -- "Join: 21, 1, 19, 17, 18."
  abbrev pub join_rules : List ℕ → ℕ → Answer
  join_rules name cap = first_of (
      (ltb highest_cap cap gives CapTooHigh)
      ∷ (exists (v.account name) gives NameHeld)
      ∷ (leb 32 v.accounts gives AccountsFull)
      ∷ []) Done

  -- "then 7 if expiration <= book time; 8 if every open slot is taken; 9 if open and finished records together fill the finished
  -- book's places; 10 if position + amount > cap"
  abbrev pub new_rules : Content → Answer
  new_rules c = first_of (
      (le_z c.expiration v.clock gives Expired)
      ∷ (leb v.slots v.opened gives OpenBookFull)
      ∷ (leb v.places (v.opened + v.ended) gives NoPlaceLeft)
      ∷ (passes_cap (v.account c.payer) c.amount gives CapPassed)
      ∷ []) Done

  -- "then, if the id is held, 24 when .. are equal, else 6"
  abbrev pub id_rules : Option Transfer → Content → Answer
  id_rules none c = new_rules c
  id_rules (some t) c = cond (same_content t.content c) Resend OtherContent

  -- "Prepare: 21, 1, 2, 3, 4, 5; .."
  abbrev pub prepare_rules : Content → List ℕ → Answer
  prepare_rules c currency = first_of (
      (not (exists (v.account c.payer)) gives NoPayer)
      ∷ (not (exists (v.account c.payee)) gives NoPayee)
      ∷ (same c.payer c.payee gives PayerIsPayee)
      ∷ (not (same currency v.currency) gives OtherCurrency)
      ∷ []) (id_rules (v.held c.id) c)

-- "If COMMITTED: 24 for the same fulfilment bytes, else 6. If expired: 7. If aborted by the payee: 13. If RESERVED: 14, or commit"
abbrev pub fulfil_state : State → Content → List ℕ → Answer
fulfil_state (committed f) c fulfilment = cond (same f fulfilment) Resend OtherContent
fulfil_state expired c fulfilment = Expired
fulfil_state (aborted d) c fulfilment = EndedAnotherWay
fulfil_state reserved c fulfilment = cond (same (condition_for fulfilment) c.condition) Done NoMatch

-- "COMMITTED: 13. Expired: 7. Aborted by the payee: 24 for the same code, else 6. RESERVED: aborted with that code"
abbrev pub abort_state : State → ℕ → Answer
abort_state (committed f) code = EndedAnotherWay
abort_state expired code = Expired
abort_state (aborted d) code = cond (eqb d code) Resend OtherContent
abort_state reserved code = Done

-- "Fulfil: 21, 1, 11, 12.", "Abort: 21, 1, 11, 12.": then by the state
abbrev pub payee_rules : Option Transfer → List ℕ → (Transfer → Answer) → Answer
payee_rules none sender by_state = UnknownId
payee_rules (some t) sender by_state = cond (same t.content.payee sender) (by_state t) NotThePayee

-- "Lookup: 21, 1, 11."
abbrev pub lookup_rules : Option Transfer → Answer
lookup_rules none = UnknownId
lookup_rules (some t) = Done

-- "Every call but open tests this first."
abbrev pub tests_shape : Call → Bool
tests_shape («open» currency instant o f) = false
tests_shape (join name cap) = true
tests_shape (prepare p) = true
tests_shape (fulfil sender id fulfilment) = true
tests_shape (abort sender id code) = true
tests_shape (time instant places) = true
tests_shape (lookup id) = true

-- the acceptance number of a transfer that a book holds; else n
abbrev pub number_or : ℕ → Option Transfer → ℕ
number_or n none = n
number_or n (some t) = t.number

module _ (v : View) where
  -- "15 if below book time; 16 if the lent list has fewer places than transfers to expire"
  abbrev pub time_rules : ℤ → ℕ → Answer
  time_rules t places = first_of (
      (lt_z t v.clock gives ClockGoesBack)
      ∷ (ltb places (length (v.due t)) gives ListTooShort)
      ∷ []) Done

  -- the rules that follow 21 and 1
  abbrev pub rules : Call → Answer
  rules («open» currency instant o f) = open_rules o f
  rules (join name cap) = join_rules v name (ten_thousandths cap)
  rules (prepare p) = prepare_rules v (content_of p) p.currency
  rules (fulfil sender id fulfilment) =
      payee_rules (v.held (id_of id)) sender (λ t. fulfil_state t.state t.content (condition_of fulfilment))
  rules (abort sender id code) = payee_rules (v.held (id_of id)) sender (λ t. abort_state t.state (code_of code))
  rules (time instant places) = time_rules (instant_of instant) places
  rules (lookup id) = lookup_rules (v.held (id_of id))

  abbrev pub answer_to : Call → Answer
  answer_to c = first_of (
      ((tests_shape c && not v.shaped) gives OutOfShape)
      ∷ (not (in_form c) gives NotInForm)
      ∷ []) (rules c)

  -- "the acceptance number of the transfer if a book holds its id after the call, for time the count of transfers it expired, else 0";
  -- "A new acceptance number is one more than the records in both books"
  abbrev pub mark_of : Call → Bool → ℕ
  mark_of («open» currency instant o f) done = 0
  mark_of (join name cap) done = 0
  mark_of (prepare p) done = number_or (cond done (suc (v.opened + v.ended)) 0) (v.held (id_of p.id))
  mark_of (fulfil sender id fulfilment) done = number_or 0 (v.held (id_of id))
  mark_of (abort sender id code) done = number_or 0 (v.held (id_of id))
  mark_of (time instant places) done = cond done (length (v.due (instant_of instant))) 0
  mark_of (lookup id) done = number_or 0 (v.held (id_of id))

  -- "Answers 1 and 21 have mark 0"
  abbrev pub mark_to : Call → ℕ
  mark_to c = cond ((tests_shape c && not v.shaped) || not (in_form c)) 0 (mark_of c (is_done (answer_to c)))
