-- Worked examples: 01's eight lines, and a fulfilment before and after the sweep. SHA-256 is not computed here: of it they need one value,
-- that of 32 zeros, which is a premise; the program of crates/vectors prints it.
use Rattle.std.specs.Prelude.{ℕ, ◌*◌, ◌≡◌, List, [], ◌∷◌, map, ℤ, pos, neg_ℤ, replicate, take}
use Rattle.std.proofs.Math.Option.{Option, some}
use Rattle.octets.specs.Ascii.{ascii}
use Rattle.octets.specs.Build.{build}
use Rattle.octets.specs.Numbers.{number}
use Rattle.octets.specs.Parts.{part}
use Rattle.uuid_text.specs.Id.{id_of}
use Rattle.rules.specs.Answers.{number as answer_number, code}
use Rattle.rules.specs.Calls.{Text, PrepareText, condition_for}
use Rattle.rules.specs.View.{State, committed, expired}
use Rattle.shape.specs.Reading.{map_some}
use Rattle.time.specs.Effect.{places_in}
use Rattle.recount.specs.History.{Came, «open», join, prepare, fulfil, abort, time, Reply}
use Rattle.recount.specs.Recount.{Past, recounted, past_after, recount_of}

-- "It prints number, code, mark, and for time as many of the list's numbers as the mark says"
abbrev pub numbers_in : List ℕ → List ℕ
numbers_in list = build (places_in list) (λ k. number (part list (k * 4) 4))

abbrev pub printed : Reply → List ℕ
printed r = answer_number r.answer ∷ code r.answer ∷ r.mark ∷ take r.mark (numbers_in r.list)

-- "{A43} stands for forty-three letters A": 32 zeros; and the text of their SHA-256
abbrev pub a43 : Text
a43 = replicate 43 65

abbrev pub hash_text : Text
hash_text = ascii "Zmh6rfhivXdsj8GLjp-OIAiXFIVu4jOzkCpZHQ1fKSU"

abbrev pub HashOfZeros : Type 0
HashOfZeros = condition_for (replicate 32 0)
    ≡ 102 ∷ 104 ∷ 122 ∷ 173 ∷ 248 ∷ 98 ∷ 189 ∷ 119 ∷ 108 ∷ 143 ∷ 193 ∷ 139 ∷ 142 ∷ 159 ∷ 142 ∷ 32
    ∷ 8 ∷ 151 ∷ 20 ∷ 133 ∷ 110 ∷ 226 ∷ 51 ∷ 179 ∷ 144 ∷ 42 ∷ 89 ∷ 29 ∷ 13 ∷ 95 ∷ 41 ∷ 37 ∷ []

abbrev pub one : Text
one = ascii "00000000-0000-4000-8000-000000000001"

abbrev pub two : Text
two = ascii "00000000-0000-4000-8000-000000000002"

-- a transfer from alpha to beta that expires after a minute
abbrev pub asked : Text → Text → Text → PrepareText
asked id amount condition = record {
  id = id;
  payer = ascii "alpha";
  payee = ascii "beta";
  currency = ascii "XTS";
  amount = amount;
  condition = condition;
  expiration = ascii "2024-01-01T00:01:00.000Z";
  packet = ascii "AQ";
}

-- "64 open, 100 finished records, list of 64"
abbrev pub opening : Came
opening = «open» (ascii "XTS") (ascii "2024-01-01T00:00:00.000Z") (replicate 10240 0) (replicate 16000 0)

abbrev pub alpha : Came
alpha = join (ascii "alpha") (ascii "100")

abbrev pub beta : Came
beta = join (ascii "beta") (ascii "0")

abbrev pub fulfilment : Came
fulfilment = fulfil (ascii "beta") one a43

abbrev pub sweep : Came
sweep = time (ascii "2024-01-01T00:01:00.000Z") (replicate 256 0)

-- 01's lines, and what they print
abbrev pub lines : List Came
lines = opening ∷ alpha ∷ beta ∷ prepare (asked one (ascii "60.5") a43) ∷ prepare (asked two (ascii "40") a43)
    ∷ fulfilment ∷ sweep ∷ abort (ascii "beta") one (ascii "5100") ∷ []

abbrev pub lines_print : List (List ℕ)
lines_print = (0 ∷ 0 ∷ 0 ∷ [])
    ∷ (0 ∷ 0 ∷ 0 ∷ [])
    ∷ (0 ∷ 0 ∷ 0 ∷ [])
    ∷ (0 ∷ 0 ∷ 1 ∷ [])
    ∷ (10 ∷ 4001 ∷ 0 ∷ [])
    ∷ (14 ∷ 3100 ∷ 1 ∷ [])
    ∷ (0 ∷ 0 ∷ 1 ∷ 1 ∷ [])
    ∷ (7 ∷ 3303 ∷ 1 ∷ [])
    ∷ []

-- a transfer under the hash as its condition: fulfilled, and then the sweep finds nothing to expire ..
abbrev pub fulfilled_first : List Came
fulfilled_first = opening ∷ alpha ∷ beta ∷ prepare (asked one (ascii "60.5") hash_text) ∷ fulfilment ∷ sweep ∷ []

abbrev pub fulfilled_print : List (List ℕ)
fulfilled_print = (0 ∷ 0 ∷ 0 ∷ []) ∷ (0 ∷ 0 ∷ 0 ∷ []) ∷ (0 ∷ 0 ∷ 0 ∷ []) ∷ (0 ∷ 0 ∷ 1 ∷ []) ∷ (0 ∷ 0 ∷ 1 ∷ []) ∷ (0 ∷ 0 ∷ 0 ∷ []) ∷ []

-- .. and expired by the sweep, and then the fulfilment comes too late
abbrev pub swept_first : List Came
swept_first = opening ∷ alpha ∷ beta ∷ prepare (asked one (ascii "60.5") hash_text) ∷ sweep ∷ fulfilment ∷ []

abbrev pub swept_print : List (List ℕ)
swept_print = (0 ∷ 0 ∷ 0 ∷ []) ∷ (0 ∷ 0 ∷ 0 ∷ []) ∷ (0 ∷ 0 ∷ 0 ∷ []) ∷ (0 ∷ 0 ∷ 1 ∷ []) ∷ (0 ∷ 0 ∷ 1 ∷ 1 ∷ []) ∷ (7 ∷ 3303 ∷ 1 ∷ []) ∷ []

-- what the transfer and the positions have come to
abbrev pub state_after : Past → List Came → Option State
state_after p calls = map_some (λ t. t.state) ((recounted (past_after p calls)).held (id_of one))

abbrev pub position_after : Past → List Came → Text → Option ℤ
position_after p calls name = map_some (λ s. s.position) ((recounted (past_after p calls)).account name)

-- whatever came before the open
pub record Worked (p : Past) : Type 0 where
  pub example : HashOfZeros → map printed (recount_of p lines) ≡ lines_print
  pub fulfilled : HashOfZeros → map printed (recount_of p fulfilled_first) ≡ fulfilled_print
  pub fulfilled_state : HashOfZeros → state_after p fulfilled_first ≡ some (committed (replicate 32 0))
  pub fulfilled_payer : HashOfZeros → position_after p fulfilled_first (ascii "alpha") ≡ some (pos 605000)
  pub fulfilled_payee : HashOfZeros → position_after p fulfilled_first (ascii "beta") ≡ some (neg_ℤ (pos 605000))
  pub swept : map printed (recount_of p swept_first) ≡ swept_print
  pub swept_state : state_after p swept_first ≡ some expired
  pub swept_payer : position_after p swept_first (ascii "alpha") ≡ some (pos 0)
  pub swept_payee : position_after p swept_first (ascii "beta") ≡ some (pos 0)
