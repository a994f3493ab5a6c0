-- What the inner functions of the calls go by, and what they ask for; no public promise cites these.
use Rattle.std.specs.Prelude.{ℕ, ◌+◌, ◌*◌, ◌≤◌, ◌<◌, ◌≡◌, Bool, true, cond, List, length, ltb, Option, Some, None}
use Rattle.std.proofs.Math.Option as maybe
use Rattle.std.proofs.Math.Option.{none, some}
use Rattle.account.specs.declared.Head.{Head}
use Rattle.account.specs.Position.{Room, InRange}
use Rattle.account.specs.Head.{account_at, Named}
use Rattle.record.specs.Layout.{Row, num, payee_field}
use Rattle.record.specs.Rows.{row}
use Rattle.rules.specs.declared.Answer.{Answer}
use Rattle.rules.specs.declared.Answer.TheVariants.{OtherContent, Resend}
use Rattle.rules.specs.Answers.{is_done}
use Rattle.rules.specs.View.{Transfer, reserved}
use Rattle.rules.specs.Rules.{payee_rules, number_or}
use Rattle.shape.specs.Reading.{Book, transfer_of, held_transfer}
use Rattle.book.specs.declared.Decision.{Decision}
use Rattle.book.specs.declared.Place.{Place}
use Rattle.book.specs.declared.Place.TheVariants.{Opened, Ended}
use Rattle.book.specs.Step.{Outcome, slot_of, record_in}
use Rattle.book.specs.Ending.{amount_in, ended_at}

-- an answer that changes nothing
abbrev pub kept : Book → Answer → ℕ → Outcome
kept b a mark = record { answer = a; mark = mark; left = b }

abbrev pub resent : Bool → Answer
resent same_content = cond same_content Resend OtherContent

-- the first place of n, where there is one
abbrev pub first_of : ℕ → ℕ → Option ℕ
first_of k n = cond (ltb k n) (Some k) None

-- the books have the records that the head counts
pub record InBooks (b : Book) : Type 0 where
  pub slots : b.head.slots * 160 ≤ length b.opened
  pub finished : b.head.finished * 160 ≤ length b.ended

-- a record whose payee has an account
pub record PayeeNamed (h : Head) (r : Row) : Type 0 where
  pub long : length r ≡ 160
  pub named : Named h
  pub payee : num payee_field r < h.count

-- a place that lies in its book
abbrev pub Inside : List ℕ → List ℕ → Place → Type 0
Inside opened ended (Opened k) = k * 160 + 160 ≤ length opened
Inside opened ended (Ended k) = k * 160 + 160 ≤ length ended

-- a record whose amount can be taken from an account's position
pub record CanSettle (h : Head) (i : ℕ) (r : Row) : Type 0 where
  pub long : length r ≡ 160
  pub account : i < 32
  pub room : Room (account_at h i).position
  pub amount : InRange (amount_in r)
  pub few : h.finished < 65535

-- a slot whose record can end
pub record CanEnd (b : Book) (k i : ℕ) : Type 0 where
  pub slot : k * 160 + 160 ≤ length b.opened
  pub place : b.head.finished * 160 + 160 ≤ length b.ended
  pub settles : CanSettle b.head i (row b.opened k)

-- a decision that can be carried out: where it is 0 the record of its slot can end, for the account that it names
pub record CanCarryOut (names : Row → ℕ → Type 0) (b : Book) (d : Decision) : Type 0 where
  pub slot : is_done d.answer ≡ true → d.slot * 160 + 160 ≤ length b.opened
  pub ends : is_done d.answer ≡ true → (i : ℕ) → names (row b.opened d.slot) i → CanEnd b d.slot i

abbrev pub carried_out : Book → Decision → (Row → ℕ) → (Row → Row) → Outcome
carried_out b d party ending = record {
  answer = d.answer;
  mark = d.mark;
  left = cond (is_done d.answer) (ended_at b d.slot party ending) b;
}

-- what it leaves, where the account that is named of a record is this number of it
abbrev pub CarriesOut : (Row → ℕ → Type 0) → Book → Decision → (Row → Row) → Outcome → Type 0
CarriesOut names b d ending out =
    (number : Row → ℕ) → ((r : Row) (i : ℕ) → names r i → i ≡ number r) → out ≡ carried_out b d number ending

-- the record at a place
abbrev pub row_at : Book → Option Place → maybe.Option Row
row_at b (Some p) = some (record_in b.opened b.ended p)
row_at b None = none

-- what the code answers on a record is the answer by the state of its transfer, and 0 is one on a RESERVED transfer only
pub record ByState (answers : Row → Answer → Type 0) (names : List (List ℕ)) (by_state : Transfer → Answer) : Type 0 where
  pub answer : (r : Row) (a : Answer) → answers r a → a ≡ by_state (transfer_of names r)
  pub ends : (t : Transfer) → is_done (by_state t) ≡ true → t.state ≡ reserved

-- what a fulfil or an abort is answered on the record of an id, and the slot where the answer is 0
pub record Decided (b : Book) (sender id : List ℕ) (by_state : Transfer → Answer) (d : Decision) : Type 0 where
  pub answer : d.answer ≡ payee_rules (held_transfer b id) sender by_state
  pub mark : d.mark ≡ number_or 0 (held_transfer b id)
  pub slot : is_done d.answer ≡ true → d.slot ≡ slot_of b id
  pub taken : is_done d.answer ≡ true → slot_of b id < b.head.slots

-- what it leaves, where a record that ends leaves the book `after`
abbrev pub by_payee : Book → List ℕ → List ℕ → (Transfer → Answer) → Book → Outcome
by_payee b sender id by_state after = record {
  answer = payee_rules (held_transfer b id) sender by_state;
  mark = number_or 0 (held_transfer b id);
  left = cond (is_done (payee_rules (held_transfer b id) sender by_state)) after b;
}
