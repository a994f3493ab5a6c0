-- The 160 bytes of a record: the table of 01 ("The two books").
use Rattle.std.specs.Prelude.{ℕ, ◌+◌, ◌*◌, Bool, List, [], ◌∷◌, eqb, ℤ}
use Rattle.std.proofs.lemmas.List.Edits.{sets}
use Rattle.std.specs.Int.{w64}
use Rattle.std.proofs.Common.{to_z, of_z}
use Rattle.octets.specs.Numbers.{number, big_endian}
use Rattle.octets.specs.Parts.{part, zeros}
use Rattle.record.specs.declared.Content.{Content}

abbrev pub Row : Type 0
Row = List ℕ

-- where a field stands: its first byte, and how many there are
pub record Field : Type 0 where
  pub start : ℕ
  pub width : ℕ

abbrev pub bytes : ℕ → ℕ → Field
bytes a n = record { start = a; width = n }

abbrev pub id_field : Field
id_field = bytes 0 16

abbrev pub state_field : Field
state_field = bytes 16 1

abbrev pub payer_field : Field
payer_field = bytes 17 1

abbrev pub payee_field : Field
payee_field = bytes 18 1

abbrev pub ended_by_field : Field
ended_by_field = bytes 19 1

abbrev pub code_field : Field
code_field = bytes 20 2

abbrev pub remainder_field : Field
remainder_field = bytes 22 2

abbrev pub units_field : Field
units_field = bytes 24 8

abbrev pub expiration_field : Field
expiration_field = bytes 32 8

abbrev pub condition_field : Field
condition_field = bytes 40 32

abbrev pub fulfilment_field : Field
fulfilment_field = bytes 72 32

abbrev pub packet_field : Field
packet_field = bytes 104 32

abbrev pub number_field : Field
number_field = bytes 136 4

-- a field's bytes, and its number
unfoldable pub get : Field → Row → List ℕ
get f r = part r f.start f.width

abbrev pub num : Field → Row → ℕ
num f r = number (get f r)

-- "32-39 expiration, two's complement"
abbrev pub expiration_of : Row → ℤ
expiration_of r = to_z w64 (num expiration_field r)

-- the amount, in ten-thousandths
abbrev pub amount_of : Row → ℕ
amount_of r = num units_field r * 10000 + num remainder_field r

-- the row with a field's bytes set anew and the rest kept
pub record Setting : Type 0 where
  pub to : Field
  pub value : List ℕ

infixr 9 ◌≔◌
abbrev pub ◌≔◌ : Field → List ℕ → Setting
f ≔ v = record { to = f; value = v }

abbrev pub with : List Setting → Row → Row
with [] r = r
with (s ∷ ss) r = with ss (sets r s.to.start s.value)

-- "16 state: .. 0 free"; "a freed slot is all zeros"
abbrev pub is_free : Row → Bool
is_free r = eqb (num state_field r) 0

-- the record of an accepted prepare: RESERVED, ended by nothing, no code, no fulfilment
abbrev pub accepted : Content → ℕ → ℕ → ℕ → List Setting
accepted c payer payee n =
    (id_field ≔ c.id)
    ∷ (state_field ≔ (2 ∷ []))
    ∷ (payer_field ≔ (payer ∷ []))
    ∷ (payee_field ≔ (payee ∷ []))
    ∷ (remainder_field ≔ big_endian 2 c.amount.remainder)
    ∷ (units_field ≔ big_endian 8 c.amount.units)
    ∷ (expiration_field ≔ big_endian 8 (of_z w64 c.expiration))
    ∷ (condition_field ≔ c.condition)
    ∷ (packet_field ≔ c.packet)
    ∷ (number_field ≔ big_endian 4 n)
    ∷ []

unfoldable pub new_row : Content → ℕ → ℕ → ℕ → Row
new_row c payer payee n = with (accepted c payer payee n) (zeros 160)

-- "An ended record moves .., with bytes 16, 19, 20-21 and 72-103 set anew as below and the rest kept"
abbrev pub ending : ℕ → ℕ → ℕ → List ℕ → List Setting
ending state by code fulfilment =
    (state_field ≔ (state ∷ []))
    ∷ (ended_by_field ≔ (by ∷ []))
    ∷ (code_field ≔ big_endian 2 code)
    ∷ (fulfilment_field ≔ fulfilment)
    ∷ []

unfoldable pub ended_row : ℕ → ℕ → ℕ → List ℕ → Row → Row
ended_row state by code fulfilment r = with (ending state by code fulfilment) r
