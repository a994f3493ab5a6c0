-- The calls as they come, texts and all, and what their texts say (01, "The switch's part", "Field texts").
use Rattle.std.specs.Prelude.{ℕ, Bool, ◌&&◌, List, map, ℤ, is_ok}
use Rattle.octets.specs.Decimal.{decimal}
use Rattle.form.specs.Regex.{Re, judge}
use Rattle.form.specs.Listings.{amount_form, id_form, date_time_form, condition_form, packet_form, name_form, currency_form, code_form}
use Rattle.amount.specs.Amount.{ten_thousandths}
use Rattle.uuid_text.specs.Id.{id_of}
use Rattle.datetime.specs.Instant.{instant_of}
use Rattle.base64url.specs.Letters.{value_of}
use Rattle.base64url.specs.Condition.{bytes_of}
use Rattle.sha256.specs.Sha256.{sha256}

abbrev pub Text : Type 0
Text = List ℕ

-- the fields of a prepare
pub record PrepareText : Type 0 where
  pub id : Text
  pub payer : Text
  pub payee : Text
  pub currency : Text
  pub amount : Text
  pub condition : Text
  pub expiration : Text
  pub packet : Text

-- "Calls: open, join (an FSP gets an account), prepare, fulfil, abort, time, lookup"; a time comes with the places of the lent list
pub data Call : Type 0 where
  «open» : (currency time : Text) (open_length finished_length : ℕ) → Call
  join : (name cap : Text) → Call
  prepare : PrepareText → Call
  fulfil : (sender id fulfilment : Text) → Call
  abort : (sender id code : Text) → Call
  time : (instant : Text) (places : ℕ) → Call
  lookup : (id : Text) → Call

-- a text is of a published form
abbrev pub is_of : Re → Text → Bool
is_of form s = is_ok (judge form s)

-- the answer 1, "a field not in form", is given unless
abbrev pub in_form : Call → Bool
in_form («open» currency instant o f) = is_of currency_form currency && is_of date_time_form instant
in_form (join name cap) = is_of name_form name && is_of amount_form cap
in_form (prepare p) =
    is_of id_form p.id && (is_of name_form p.payer && (is_of name_form p.payee && (is_of currency_form p.currency
    && (is_of amount_form p.amount && (is_of condition_form p.condition && (is_of date_time_form p.expiration
    && is_of packet_form p.packet))))))
in_form (fulfil sender id fulfilment) = is_of name_form sender && (is_of id_form id && is_of condition_form fulfilment)
in_form (abort sender id code) = is_of name_form sender && (is_of id_form id && is_of code_form code)
in_form (time instant places) = is_of date_time_form instant
in_form (lookup id) = is_of id_form id

-- the 32 bytes of a condition or fulfilment
abbrev pub condition_of : Text → List ℕ
condition_of s = bytes_of (map value_of s)

-- "SHA-256 of the packet's characters"
abbrev pub packet_hash : Text → List ℕ
packet_hash s = sha256 s

-- "A matching fulfilment is one whose 32 bytes have the condition as SHA-256"
abbrev pub condition_for : List ℕ → List ℕ
condition_for fulfilment = sha256 fulfilment

-- what a prepare says: its values, the amount in ten-thousandths
pub record Content : Type 0 where
  pub id : List ℕ
  pub payer : List ℕ
  pub payee : List ℕ
  pub amount : ℕ
  pub condition : List ℕ
  pub expiration : ℤ
  pub packet : List ℕ

abbrev pub content_of : PrepareText → Content
content_of p = record {
  id = id_of p.id;
  payer = p.payer;
  payee = p.payee;
  amount = ten_thousandths p.amount;
  condition = condition_of p.condition;
  expiration = instant_of p.expiration;
  packet = packet_hash p.packet;
}

-- the number of an abort code
abbrev pub code_of : Text → ℕ
code_of s = decimal s
