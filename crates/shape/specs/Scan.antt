-- What the parts of the pass answer, each a part of the shape or a sum that it is told by.
use Rattle.std.specs.Prelude.{ℕ, ◌+◌, ◌*◌, ◌≤◌, ◌≡◌, Bool, true, cond, not, ◌&&◌, List, eqb, leb, length, drop, pos, ℤ, Option, Some, None}
use Rattle.octets.specs.Lists.{all, count, sum}
use Rattle.octets.specs.Parts.{same, all_zero}
use Rattle.octets.specs.Integers.{dn}
use Rattle.account.specs.declared.Account.{Account}
use Rattle.account.specs.declared.Head.{Head}
use Rattle.account.specs.Head.{accounts_of}
use Rattle.record.specs.Layout.{Row, num, amount_of, state_field, ended_by_field}
use Rattle.record.specs.Rows.{rows}
use Rattle.rules.specs.Rules.{highest_cap, sameℤ}
use Rattle.shape.specs.declared.records.Held.{Held}
use Rattle.shape.specs.Reading.{names_of, is_taken}
use Rattle.shape.specs.Shape.{account_ok, none_twice, record_ok, open_ok, ended_ok, total}

-- the accounts
unfoldable pub accounts_ok : Head → Bool
accounts_ok h = leb h.count 32 && (all account_ok (accounts_of h) && none_twice (names_of h))

-- a name is none of these
abbrev pub is_new : List (List ℕ) → List ℕ → Bool
is_new names name = all (λ m. not (same name m)) names

-- a head whose accounts were judged
pub record Judged (h : Head) : Type 0 where
  pub few : h.count ≤ 32
  pub each : all account_ok (accounts_of h) ≡ true

-- a book of so many slots
pub record Sized (slots : ℕ) (book : List ℕ) : Type 0 where
  pub long : length book ≡ slots * 160
  pub few : slots ≤ 1024

-- a slot that is taken
unfoldable pub reserved_ok : ℕ → Row → Bool
reserved_ok accounts r = (eqb (num state_field r) 2 && eqb (num ended_by_field r) 0) && record_ok accounts r

-- what the open book holds. "positions at most 10^17 units", of at most 32 accounts: more than 32 times as much no positions sum to
abbrev pub most_reserved : ℕ
most_reserved = 32 * highest_cap

unfoldable pub held_in_book : ℕ → List Row → Option Held
held_in_book accounts rs =
    cond (all (open_ok accounts) rs && leb (sum amount_of rs) most_reserved)
    (Some (record { taken = count is_taken rs; reserved = sum amount_of rs })) None

-- the open book beside the head
unfoldable pub open_book_ok : Head → List ℕ → Bool
open_book_ok h opened =
    all (open_ok h.count) (rows h.slots opened)
    && (leb (count is_taken (rows h.slots opened) + h.finished) h.places
    && sameℤ (total (accounts_of h)) (pos (sum amount_of (rows h.slots opened))))

-- the finished book
unfoldable pub ended_book_ok : ℕ → ℕ → List ℕ → Bool
ended_book_ok accounts finished ended = all (ended_ok accounts) (rows finished ended) && all_zero (drop (finished * 160) ended)

-- how many units of a position lie below zero
abbrev pub below_of : Account → ℕ
below_of a = dn a.position.units

-- the positions together; where more units lie below zero than this, the others cannot make up for it
abbrev pub most_below : ℕ
most_below = 3300000000000000000

unfoldable pub total_in_reach : List Account → Option ℤ
total_in_reach xs = cond (leb (sum below_of xs) most_below) (Some (total xs)) None
