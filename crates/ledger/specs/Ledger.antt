-- A book's records as transfers, and its accounts as members: what the bytes say, without their order in the book.
use Rattle.std.specs.Prelude.{ℕ, Bool, true, false, cond, ◌&&◌, List, ◌++◌, map, ℤ, pos, ◌-ℤ◌}
use Rattle.std.specs.Int.Signed.{le_z}
use Rattle.octets.specs.Lists.{keep, sum}
use Rattle.octets.specs.Parts.{same}
use Rattle.account.specs.declared.Account.{Account}
use Rattle.account.specs.Head.{name_of, accounts_of}
use Rattle.rules.specs.View.{State, reserved, committed, aborted, expired, Transfer, Standing}
use Rattle.shape.specs.Reading.{Book, names_of, transfer_of, open_rows, ended_rows, is_taken, standing}

-- the open records by slot, then the finished ones by place
abbrev pub transfers_in : Book → List Transfer
transfers_in b = map (transfer_of (names_of b.head)) (keep is_taken (open_rows b) ++ ended_rows b)

-- an account by its key, the name
pub record Member : Type 0 where
  pub key : List ℕ
  pub standing : Standing

abbrev pub member_of : Account → Member
member_of a = record { key = name_of a; standing = standing a }

abbrev pub members_in : Book → List Member
members_in b = map member_of (accounts_of b.head)

-- a transfer in another state
abbrev pub in_state : State → Transfer → Transfer
in_state s t = record { content = t.content; number = t.number; state = s }

abbrev pub is_reserved : State → Bool
is_reserved reserved = true
is_reserved (committed f) = false
is_reserved (aborted code) = false
is_reserved expired = false

abbrev pub is_due_at : ℤ → Transfer → Bool
is_due_at z t = is_reserved t.state && le_z t.content.expiration z

abbrev pub expired_at : ℤ → Transfer → Transfer
expired_at z t = cond (is_due_at z t) (in_state expired t) t

-- a member's position changed
abbrev pub positioned : (ℤ → ℤ) → Member → Member
positioned f m = record { key = m.key; standing = record { cap = m.standing.cap; position = f m.standing.position } }

-- the position of one key changed
abbrev pub moved_at : List ℕ → (ℤ → ℤ) → Member → Member
moved_at key f m = cond (same m.key key) (positioned f m) m

-- what a clock step gives back to a payer: the amounts of its transfers that are due
abbrev pub due_from : ℤ → List ℕ → Transfer → ℕ
due_from z key t = cond (is_due_at z t && same t.content.payer key) t.content.amount 0

abbrev pub released : ℤ → List Transfer → Member → Member
released z ts m = positioned (λ p. p -ℤ pos (sum (due_from z m.key) ts)) m
