-- What each accepted call changes of a book's transfers and members. The order of the records is not spoken of: every sum over them is.
use Rattle.std.specs.Prelude.{ℕ, suc, ◌+◌, ◌≡◌, not, cond, List, [], ◌∷◌, ◌++◌, map, leb, ℤ, pos, ◌+ℤ◌, ◌-ℤ◌}
use Rattle.octets.specs.Lists.{first, keep, count, sum}
use Rattle.octets.specs.Parts.{same}
use Rattle.amount.specs.Amount.{ten_thousandths}
use Rattle.rules.specs.Calls.{Text, PrepareText, content_of}
use Rattle.rules.specs.View.{State, reserved, Transfer}
use Rattle.shape.specs.Reading.{Book, map_some, account_of, held_transfer, open_count, due_rows, numbers_of}
use Rattle.ledger.specs.Ledger.{transfers_in, members_in, in_state, is_reserved, is_due_at, expired_at, moved_at, released}

-- numbers in ascending order
abbrev pub insert_number : ℕ → List ℕ → List ℕ
insert_number n [] = n ∷ []
insert_number n (m ∷ ms) = cond (leb n m) (n ∷ m ∷ ms) (m ∷ insert_number n ms)

unfoldable pub ascending : List ℕ → List ℕ
ascending [] = []
ascending (n ∷ ns) = insert_number n (ascending ns)

-- what a call sees of a book of the shape, found in its transfers and members
pub record SeenIn (b : Book) : Type 0 where
  pub accounts : (name : List ℕ) → account_of b name ≡ map_some (λ m. m.standing) (first (λ m. same m.key name) (members_in b))
  pub held : (id : List ℕ) → held_transfer b id ≡ first (λ t. same t.content.id id) (transfers_in b)
  pub opened : open_count b ≡ count (λ t. is_reserved t.state) (transfers_in b)
  pub ended : b.head.finished ≡ count (λ t. not (is_reserved t.state)) (transfers_in b)
  pub due : (z : ℤ) → numbers_of (due_rows z b) ≡ ascending (map (λ t. t.number) (keep (is_due_at z) (transfers_in b)))

-- a book of the same currency and lengths
pub record SameFrame (b c : Book) : Type 0 where
  pub currency : c.head.currency ≡ b.head.currency
  pub slots : c.head.slots ≡ b.head.slots
  pub places : c.head.places ≡ b.head.places

-- nothing is held in a fresh book
pub record Opened (after : Book) : Type 0 where
  pub transfers : transfers_in after ≡ []
  pub members : members_in after ≡ []

pub record Joined (b after : Book) (name cap : Text) : Type 0 where
  pub transfers : transfers_in after ≡ transfers_in b
  pub members : members_in after
      ≡ members_in b ++ (record { key = name; standing = record { cap = ten_thousandths cap; position = pos 0 } } ∷ [])
  pub frame : SameFrame b after
  pub clock : after.head.time ≡ b.head.time

pub record Prepared (b after : Book) (p : PrepareText) : Type 0 where
  pub transfers : (f : Transfer → ℕ) → sum f (transfers_in after)
      ≡ f (record { content = content_of p; number = suc (open_count b + b.head.finished); state = reserved }) + sum f (transfers_in b)
  pub members : members_in after ≡ map (moved_at p.payer (λ z. z +ℤ pos (ten_thousandths p.amount))) (members_in b)
  pub frame : SameFrame b after
  pub clock : after.head.time ≡ b.head.time

-- the transfer t ends in the state s, and the position of one party falls by its amount
pub record Ended (b after : Book) (t : Transfer) (s : State) (party : List ℕ) : Type 0 where
  pub transfers : (f : Transfer → ℕ) → sum f (transfers_in after) + f t ≡ sum f (transfers_in b) + f (in_state s t)
  pub members : members_in after ≡ map (moved_at party (λ z. z -ℤ pos t.content.amount)) (members_in b)
  pub frame : SameFrame b after
  pub clock : after.head.time ≡ b.head.time

-- every transfer that is due expires
pub record Swept (b after : Book) (z : ℤ) : Type 0 where
  pub transfers : (f : Transfer → ℕ) → sum f (transfers_in after) ≡ sum f (map (expired_at z) (transfers_in b))
  pub members : members_in after ≡ map (released z (transfers_in b)) (members_in b)
  pub frame : SameFrame b after
  pub clock : after.head.time ≡ z
