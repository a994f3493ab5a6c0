-- A head and two lent books, read: accounts with what they are worth, records with their parties' names.
use Rattle.std.specs.Prelude.{ℕ, Bool, cond, not, ◌&&◌, List, [], ◌∷◌, ◌++◌, map, eqb, leb, get_or, ℤ}
use Rattle.std.proofs.Math.Option.{Option, none, some}
use Rattle.std.specs.Int.Signed.{le_z}
use Rattle.octets.specs.Lists.{first, keep, count}
use Rattle.account.specs.declared.Account.{Account}
use Rattle.account.specs.declared.Head.{Head}
use Rattle.account.specs.Position.{worth, value}
use Rattle.account.specs.Head.{name_of, named, accounts_of}
use Rattle.record.specs.Layout.{Row, get, num, expiration_of, amount_of, is_free, id_field, state_field, payer_field, payee_field, ended_by_field, code_field, condition_field, fulfilment_field, packet_field, number_field}
use Rattle.record.specs.Rows.{rows, holds}
use Rattle.rules.specs.View.{State, reserved, committed, aborted, expired, Transfer, Standing}

-- "In demand 3 the book is the head and both lent books": the bytes of the open and of the finished book
pub record Book : Type 0 where
  pub head : Head
  pub opened : List ℕ
  pub ended : List ℕ

abbrev pub map_some : {A B : Type 0} → (A → B) → Option A → Option B
map_some f none = none
map_some f (some a) = some (f a)

abbrev pub standing : Account → Standing
standing a = record { cap = worth a.cap; position = value a.position }

-- the account of a name
abbrev pub account_of : Book → List ℕ → Option Standing
account_of b name = map_some standing (first (named name) (accounts_of b.head))

abbrev pub names_of : Head → List (List ℕ)
names_of h = map name_of (accounts_of h)

-- "16 state: 2 RESERVED, 3 COMMITTED, 4 ABORTED", "19 ended by: .. 2 payee's abort, 3 expiry"
unfoldable pub state_of : Row → State
state_of r =
    cond (eqb (num state_field r) 2) reserved
    (cond (eqb (num state_field r) 3) (committed (get fulfilment_field r))
    (cond (eqb (num ended_by_field r) 2) (aborted (num code_field r)) expired))

-- a record, its account numbers read as names
unfoldable pub transfer_of : List (List ℕ) → Row → Transfer
transfer_of names r = record {
  content = record {
    id = get id_field r;
    payer = get_or names (num payer_field r) [];
    payee = get_or names (num payee_field r) [];
    amount = amount_of r;
    condition = get condition_field r;
    expiration = expiration_of r;
    packet = get packet_field r;
  };
  number = num number_field r;
  state = state_of r;
}

-- the slots of the open book, and the finished records
abbrev pub open_rows : Book → List Row
open_rows b = rows b.head.slots b.opened

abbrev pub ended_rows : Book → List Row
ended_rows b = rows b.head.finished b.ended

-- "If a damaged book holds an id twice, the open book's lowest slot counts first, then the lowest finished place"
abbrev pub held_row : Book → List ℕ → Option Row
held_row b id = first (holds id) (open_rows b ++ ended_rows b)

abbrev pub held_transfer : Book → List ℕ → Option Transfer
held_transfer b id = map_some (transfer_of (names_of b.head)) (held_row b id)

abbrev pub is_taken : Row → Bool
is_taken r = not (is_free r)

-- how many slots of the open book are taken
abbrev pub open_count : Book → ℕ
open_count b = count is_taken (open_rows b)

-- "every RESERVED transfer with expiration <= the new time .., in ascending acceptance number (ties by slot)"
abbrev pub is_due : ℤ → Row → Bool
is_due t r = eqb (num state_field r) 2 && le_z (expiration_of r) t

abbrev pub insert : Row → List Row → List Row
insert r [] = r ∷ []
insert r (u ∷ us) = cond (leb (num number_field r) (num number_field u)) (r ∷ u ∷ us) (u ∷ insert r us)

unfoldable pub sorted : List Row → List Row
sorted [] = []
sorted (r ∷ rs) = insert r (sorted rs)

abbrev pub due_rows : ℤ → Book → List Row
due_rows t b = sorted (keep (is_due t) (open_rows b))

abbrev pub numbers_of : List Row → List ℕ
numbers_of rs = map (num number_field) rs
