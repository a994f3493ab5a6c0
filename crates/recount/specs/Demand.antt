-- Demand 3: "From a freshly opened book, every answer, transfer state and position after any list of calls equals a recount from that list
-- alone; a transfer ends once; positions add up to the amounts still reserved; no position is above its cap; the out-of-shape refusal is
-- never given." The book is the head and both lent books: `replies_of` and `book_after` are its calls on bytes (specs/History.antt), and
-- `recount_of` and `past_after` have the list of calls alone (specs/Recount.antt).
use Rattle.std.specs.Prelude.{ℕ, ◌/◌, ◌≡◌, Bool, true, false, cond, not, List, [], ◌∷◌, ◌++◌, eqb, length, pos}
use Rattle.std.proofs.Math.Option.{Option, none, some}
use Rattle.std.specs.Int.Signed.{le_z}
use Rattle.octets.specs.Lists.{all, sum}
use Rattle.uuid_text.specs.Id.{id_of}
use Rattle.datetime.specs.Instant.{instant_of}
use Rattle.account.specs.Head.{accounts_of}
use Rattle.rules.specs.Answers.{number}
use Rattle.rules.specs.Calls.{Text, in_form}
use Rattle.rules.specs.Calls as rules
use Rattle.rules.specs.View.{Transfer, Standing}
use Rattle.shape.specs.Reading.{Book, names_of, transfer_of, account_of}
use Rattle.shape.specs.Shape.{total}
use Rattle.open_book.specs.Effect.{open_step}
use Rattle.lookup.specs.Effect.{lookup_place, part_at}
use Rattle.ledger.specs.Ledger.{is_reserved}
use Rattle.recount.specs.History.{Came, Reply, book_after, replies_of, none_reopens}
use Rattle.recount.specs.Recount.{Past, still_reserved, transfers_of, recounted, past_after, recount_of}

-- what is known of an accepted open: its texts, and how many records the two lent books have room for; no call is noted yet
abbrev pub fresh_past : Book → Text → Text → Past
fresh_past b currency instant = record {
  currency = currency;
  start = instant_of instant;
  slots = length b.opened / 160;
  places = length b.ended / 160;
  entries = [];
}

-- the transfer that the bytes of a record say; none where the part is empty
abbrev pub read_part : List (List ℕ) → List ℕ → Option Transfer
read_part names [] = none
read_part names (x ∷ xs) = some (transfer_of names (x ∷ xs))

-- what a lookup gives of an id: "that record's own 160 bytes, in whichever of the two books holds it; refused, an empty part"
abbrev pub looked_up : Book → Text → Option Transfer
looked_up b id = read_part (names_of b.head) (part_at b (lookup_place b id))

-- a position within its cap, where there is an account
abbrev pub within_cap : Option Standing → Bool
within_cap none = true
within_cap (some s) = le_z s.position (pos s.cap)

abbrev pub is21 : Reply → Bool
is21 r = eqb (number r.answer) 21

-- there is a transfer, and it has ended
abbrev pub has_ended : Option Transfer → Bool
has_ended none = false
has_ended (some t) = not (is_reserved t.state)

-- of a book that an open accepted, whatever head and bytes it was lent, and any list of calls after it, further opens among them
pub record Demand3 (b : Book) (currency instant : Text) (calls : List Came) : Type 0 where
  -- every answer: number and code, mark, and each byte of the lent list, call by call
  pub answers : replies_of (open_step b currency instant).left calls ≡ recount_of (fresh_past b currency instant) calls
  -- every transfer, with its content, acceptance number and state, by what a lookup gives of its id
  pub transfers : (id : Text) →
      looked_up (book_after (open_step b currency instant).left calls) id
      ≡ cond (in_form (rules.lookup id)) ((recounted (past_after (fresh_past b currency instant) calls)).held (id_of id)) none
  -- every account, by its name: that there is one, its cap and its position
  pub accounts : (name : List ℕ) →
      account_of (book_after (open_step b currency instant).left calls) name
      ≡ (recounted (past_after (fresh_past b currency instant) calls)).account name
  -- a transfer once ended never changes, whatever calls follow but another accepted open
  pub ended : (more : List Came) (id : Text) → has_ended (looked_up (book_after (open_step b currency instant).left calls) id) ≡ true →
      none_reopens (book_after (open_step b currency instant).left calls) more ≡ true →
      looked_up (book_after (open_step b currency instant).left (calls ++ more)) id
      ≡ looked_up (book_after (open_step b currency instant).left calls) id
  -- the positions in the head add up to the amounts that are still reserved by the list of calls
  pub balance : total (accounts_of (book_after (open_step b currency instant).left calls).head)
      ≡ pos (sum still_reserved (transfers_of 0 (past_after (fresh_past b currency instant) calls).entries))
  -- no position is above its cap
  pub caps : (name : List ℕ) → within_cap (account_of (book_after (open_step b currency instant).left calls) name) ≡ true
  -- the out-of-shape refusal is never given
  pub never21 : all (λ r. not (is21 r)) (replies_of (open_step b currency instant).left calls) ≡ true
