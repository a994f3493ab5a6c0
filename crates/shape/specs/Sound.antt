-- The facts of a book of the shape: what each call may count on, and what it must leave.
use Rattle.std.specs.Prelude.{ℕ, ◌+◌, ◌*◌, ◌≤◌, ◌<◌, ◌^◌, ◌≡◌, true, false, ◌⊎◌, length, drop, pos}
use Rattle.std.specs.Int.Signed.{le_z, mag}
use Rattle.octets.specs.Lists.{sum}
use Rattle.octets.specs.Parts.{all_zero}
use Rattle.form.specs.Listings.{name_form}
use Rattle.account.specs.declared.Account.{Account}
use Rattle.account.specs.Position.{worth, value}
use Rattle.account.specs.Head.{name_of, accounts_of, account_at}
use Rattle.record.specs.Layout.{Row, num, amount_of, is_free, state_field, payer_field, payee_field, ended_by_field, remainder_field, units_field}
use Rattle.record.specs.Rows.{row}
use Rattle.rules.specs.Calls.{is_of}
use Rattle.rules.specs.Rules.{highest_cap}
use Rattle.shape.specs.Reading.{Book, names_of, open_rows, open_count}
use Rattle.shape.specs.Shape.{none_twice, total}

-- an account
pub record SoundAccount (a : Account) : Type 0 where
  pub short : a.length ≤ 32
  pub name : is_of name_form (name_of a) ≡ true
  pub cap : worth a.cap ≤ highest_cap
  pub cap_remainder : a.cap.remainder < 10000
  pub position : le_z (value a.position) (pos highest_cap) ≡ true
  pub remainder : a.position.remainder < 10000

-- a record's parties and amount
pub record SoundRecord (accounts : ℕ) (r : Row) : Type 0 where
  pub payer : num payer_field r < accounts
  pub payee : num payee_field r < accounts
  pub differ : num payer_field r ≡ num payee_field r → ⊥
  pub units : num units_field r < 1000000000000000000
  pub remainder : num remainder_field r < 10000

-- a slot that is taken
pub record SoundReserved (accounts : ℕ) (r : Row) : Type 0 where
  pub state : num state_field r ≡ 2
  pub ended_by : num ended_by_field r ≡ 0
  pub body : SoundRecord accounts r

-- a slot, free or taken
pub record SoundSlot (accounts : ℕ) (r : Row) : Type 0 where
  pub free : is_free r ≡ true → all_zero r ≡ true
  pub taken : is_free r ≡ false → SoundReserved accounts r

-- a finished record
pub record SoundEnded (accounts : ℕ) (r : Row) : Type 0 where
  pub ending : ((num state_field r ≡ 3) × (num ended_by_field r ≡ 1)) ⊎ ((num state_field r ≡ 4) × ((num ended_by_field r ≡ 2) ⊎ (num ended_by_field r ≡ 3)))
  pub body : SoundRecord accounts r

-- the books' lengths
pub record SoundLengths (b : Book) : Type 0 where
  pub opened : length b.opened ≡ b.head.slots * 160
  pub some_slots : 1 ≤ b.head.slots
  pub few_slots : b.head.slots ≤ 1024
  pub ended : length b.ended ≡ b.head.places * 160
  pub some_places : 1 ≤ b.head.places
  pub few_places : b.head.places ≤ 65535

-- a book. The units' bound lets an amount be added to a position, or taken from it, within 64 bits
pub record Sound (b : Book) : Type 0 where
  pub lengths : SoundLengths b
  pub few : b.head.count ≤ 32
  pub account : (k : ℕ) → k < b.head.count → SoundAccount (account_at b.head k)
  pub once : none_twice (names_of b.head) ≡ true
  pub slot : (k : ℕ) → k < b.head.slots → SoundSlot b.head.count (row b.opened k)
  pub place : (k : ℕ) → k < b.head.finished → SoundEnded b.head.count (row b.ended k)
  pub rest : all_zero (drop (b.head.finished * 160) b.ended) ≡ true
  pub room : open_count b + b.head.finished ≤ b.head.places
  pub balance : total (accounts_of b.head) ≡ pos (sum amount_of (open_rows b))
  pub units : (k : ℕ) → k < b.head.count → mag (account_at b.head k).position.units < 2 ^ 62
