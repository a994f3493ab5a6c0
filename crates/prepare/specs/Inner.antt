-- What the inner functions of prepare go by, and what they ask for; no public promise cites these.
use Rattle.std.specs.Prelude.{ℕ, suc, ◌+◌, ◌*◌, ◌≤◌, ◌<◌, ◌≡◌, Bool, cond, not, ◌&&◌, List, [], ◌∷◌, eqb, leb, length, pos, ◌+ℤ◌}
use Rattle.std.specs.Prelude.{Result, Ok, Err}
use Rattle.std.proofs.lemmas.List.Edits.{sets}
use Rattle.std.specs.Int.Signed.{le_z, lt_z}
use Rattle.octets.specs.Lists.{index, count}
use Rattle.octets.specs.Parts.{same, zeros}
use Rattle.form.specs.Listings.{amount_form, id_form, date_time_form, condition_form, packet_form, name_form, currency_form}
use Rattle.amount.specs.Amount.{ten_thousandths, amount_of as held_amount}
use Rattle.amount.specs.declared.Amount.{Amount}
use Rattle.uuid_text.specs.Id.{id_of}
use Rattle.datetime.specs.Instant.{instant_of}
use Rattle.account.specs.declared.Head.{Head}
use Rattle.account.specs.Position.{worth, value, Room, InRange}
use Rattle.account.specs.Head.{place_of, account_at, Named}
use Rattle.record.specs.declared.Content.{Content}
use Rattle.record.specs.Layout.{Row, get, num, new_row, amount_of, expiration_of, is_free, condition_field, packet_field, number_field}
use Rattle.record.specs.Rows.{rows, row}
use Rattle.rules.specs.declared.Answer.{Answer}
use Rattle.rules.specs.declared.Answer.TheVariants.{Done, NoPayer, NoPayee, PayerIsPayee, OtherCurrency}
use Rattle.rules.specs.declared.Answer.TheVariants.{Expired, OpenBookFull, NoPlaceLeft, CapPassed}
use Rattle.rules.specs.Answers.{is_done}
use Rattle.rules.specs.Calls.{Content as Said, is_of, condition_of, packet_hash}
use Rattle.rules.specs.Rules.{◌gives◌, first_of, sameℤ, same_content, prepare_rules, number_or}
use Rattle.shape.specs.Reading.{Book, names_of, transfer_of, held_transfer, is_taken}
use Rattle.shape.specs.Seen.{seen}
use Rattle.shape.specs.Sound.{SoundRecord}
use Rattle.book.specs.Step.{Outcome}
use Rattle.book.specs.Inner.{resent}
use Rattle.prepare.specs.declared.Accounts.{Accounts}
use Rattle.prepare.specs.declared.Reservation.{Reservation}
use Rattle.prepare.specs.declared.Refusal.{Refusal}
use Rattle.prepare.specs.Effect.{new_number, free_slot, raised}

-- the forms of the parties and the currency, and of the rest
abbrev pub names_fit : List ℕ → List ℕ → List ℕ → Bool
names_fit payer payee currency = is_of name_form payer && (is_of name_form payee && is_of currency_form currency)

abbrev pub texts_fit : List ℕ → List ℕ → List ℕ → List ℕ → List ℕ → Bool
texts_fit id amount condition expiration packet =
    is_of id_form id && (is_of amount_form amount && (is_of condition_form condition && (is_of date_time_form expiration && is_of packet_form packet)))

-- what the texts say
abbrev pub values_in : List ℕ → List ℕ → List ℕ → List ℕ → List ℕ → Content
values_in id amount condition expiration packet = record {
  id = id_of id;
  amount = held_amount (ten_thousandths amount);
  condition = condition_of condition;
  expiration = instant_of expiration;
  packet = packet_hash packet;
}

-- what a prepare says, by the parties' names and its values
abbrev pub said : List ℕ → List ℕ → Content → Said
said payer payee c = record {
  id = c.id;
  payer = payer;
  payee = payee;
  amount = worth c.amount;
  condition = c.condition;
  expiration = c.expiration;
  packet = c.packet;
}

-- "amount, condition bytes, expiration instant and packet hash are equal"
abbrev pub same_values : Row → Content → Bool
same_values r c =
    eqb (amount_of r) (worth c.amount)
    && (same (get condition_field r) c.condition && (sameℤ (expiration_of r) c.expiration && same (get packet_field r) c.packet))

-- a value, or the answer that there is none
abbrev pub unless : {A : Type 0} → Answer → A → Result A Answer
unless a v = cond (is_done a) (Ok v) (Err a)

-- a record that a prepare can be compared with
pub record Comparable (h : Head) (r : Row) (c : Content) : Type 0 where
  pub named : Named h
  pub body : SoundRecord h.count r
  pub amount : InRange c.amount

-- the answer on the parties, or else another
abbrev pub or_else : Result Accounts Answer → Answer → Answer
or_else (Ok p) a = a
or_else (Err a) b = a

-- a record that holds the id, and what was answered on the parties
abbrev pub on_record : Head → Row → List ℕ → List ℕ → Content → Result Accounts Answer → Refusal
on_record h r payer payee c parties = record {
  answer = or_else parties (resent (same_content (transfer_of (names_of h) r).content (said payer payee c)));
  mark = num number_field r;
}

-- 2, 3, 4, 5, by the account numbers of the parties
abbrev pub party_rules : Head → List ℕ → List ℕ → List ℕ → ℕ → ℕ → Answer
party_rules h payer payee currency p q = first_of (
    (eqb p h.count gives NoPayer)
    ∷ (eqb q h.count gives NoPayee)
    ∷ (same payer payee gives PayerIsPayee)
    ∷ (not (same currency h.currency) gives OtherCurrency)
    ∷ []) Done

abbrev pub parties_at : Head → List ℕ → List ℕ → List ℕ → Result Accounts Answer
parties_at h payer payee currency =
    let p = place_of h payer in
    let q = place_of h payee in
    unless (party_rules h payer payee currency p q) (record { payer = p; payee = q })

-- 7, 8, 9, 10, by the payer's account number
abbrev pub taken_in : Head → List ℕ → ℕ
taken_in h opened = count is_taken (rows h.slots opened)

abbrev pub passes : Head → ℕ → Amount → Bool
passes h p a = lt_z (pos (worth (account_at h p).cap)) (value (account_at h p).position +ℤ pos (worth a))

abbrev pub fresh_rules : Head → List ℕ → Content → ℕ → Answer
fresh_rules h opened c p = first_of (
    (le_z c.expiration h.time gives Expired)
    ∷ (leb h.slots (taken_in h opened) gives OpenBookFull)
    ∷ (leb h.places (taken_in h opened + h.finished) gives NoPlaceLeft)
    ∷ (passes h p c.amount gives CapPassed)
    ∷ []) Done

-- the lowest free slot and the new number
abbrev pub reservation_in : Head → List ℕ → Accounts → Reservation
reservation_in h opened p = record {
  accounts = p;
  slot = index is_free (rows h.slots opened);
  number = suc (taken_in h opened + h.finished);
}

unfoldable pub new_decision : Head → List ℕ → Result Accounts Answer → Content → Result Reservation Answer
new_decision h opened (Ok p) c = unless (fresh_rules h opened c p.payer) (reservation_in h opened p)
new_decision h opened (Err a) c = Err a

-- an account whose position an amount can be added to and then compared with the cap
pub record CanRise (h : Head) (p : ℕ) (a : Amount) : Type 0 where
  pub account : p < 32
  pub room : Room (account_at h p).position
  pub cap : (account_at h p).cap.remainder < 10000
  pub amount : InRange a

-- the payer's account is one, where nothing was answered on the parties
abbrev pub NewRises : Head → Result Accounts Answer → Amount → Type 0
NewRises h (Ok p) a = CanRise h p.payer a
NewRises h (Err e) a = Unit {0}

-- a free slot for a new record
pub record CanReserve (h : Head) (opened : List ℕ) (c : Content) (r : Reservation) : Type 0 where
  pub rises : CanRise h r.accounts.payer c.amount
  pub payee : r.accounts.payee < 32
  pub inside : r.slot * 160 + 160 ≤ length opened
  pub free : row opened r.slot ≡ zeros 160

-- what is decided by the rules: where the new record goes, or the answer with the number of the record that has the id
unfoldable pub decided : Book → List ℕ → List ℕ → List ℕ → Content → Result Reservation Refusal
decided b payer payee currency c =
    let a = prepare_rules (seen b) (said payer payee c) currency in
    cond (is_done a)
    (Ok (reservation_in b.head b.opened (record { payer = place_of b.head payer; payee = place_of b.head payee })))
    (Err (record { answer = a; mark = number_or 0 (held_transfer b c.id) }))

-- the book after an accepted prepare, and what a prepare leaves, by its values
unfoldable pub reserved_by : Book → List ℕ → List ℕ → Content → Book
reserved_by b payer payee c = record {
  head = raised b.head (place_of b.head payer) c;
  opened = sets b.opened (free_slot b * 160) (new_row c (place_of b.head payer) (place_of b.head payee) (new_number b));
  ended = b.ended;
}

unfoldable pub prepared_by : Book → List ℕ → List ℕ → List ℕ → Content → Outcome
prepared_by b payer payee currency c =
    let a = prepare_rules (seen b) (said payer payee c) currency in
    record {
      answer = a;
      mark = number_or (cond (is_done a) (new_number b) 0) (held_transfer b c.id);
      left = cond (is_done a) (reserved_by b payer payee c) b;
    }
