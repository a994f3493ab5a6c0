-- The mission in its own words: "a transfer is ended by the first accepted call that is a matching fulfilment from its payee, an abort from
-- its payee, or a clock step reaching its expiry", and its state is the same after every longer list. Nothing here is recounted: a book was
-- opened, calls come, and a lookup is asked for the transfer's state.
use Rattle.std.specs.Prelude.{◌≡◌, Bool, true, false, cond, ◌&&◌, List, [], ◌∷◌, ◌++◌}
use Rattle.std.proofs.Math.Option.{Option, some}
use Rattle.rules.specs.Calls.{Text, PrepareText, content_of}
use Rattle.rules.specs.View.{State, reserved}
use Rattle.shape.specs.Reading.{Book, map_some}
use Rattle.ledger.specs.Ledger.{is_reserved}
use Rattle.recount.specs.History.{Came, prepare, call_of, left_by, book_after, is_accepted, none_reopens}
use Rattle.recount.specs.Recount.{ending_by}
use Rattle.recount.specs.Demand.{looked_up}

-- the state in which a call ends the transfer that t prepared, RESERVED where the book refuses it or it does not end it. `ending_by`
-- (specs/Recount.antt) is the mission's list: a fulfilment under its id, from its payee, whose SHA-256 is the condition; an abort under its
-- id, from its payee; a time at or after its expiration
abbrev pub ending_on : PrepareText → Book → Came → State
ending_on t b c = cond (is_accepted b c) (ending_by (content_of t) (call_of c)) reserved

-- no call of a list ends it, each asked of the book as the calls before it left it
unfoldable pub none_ends : PrepareText → Book → List Came → Bool
none_ends t b [] = true
none_ends t b (c ∷ cs) = is_reserved (ending_on t b c) && none_ends t (left_by b c) cs

-- the state that a lookup gives of an id
abbrev pub state_in : Book → Text → Option State
state_in b id = map_some (λ t. t.state) (looked_up b id)

-- the book once a prepare was accepted, after the calls that came before it
abbrev pub prepared_in : Book → List Came → PrepareText → Book
prepared_in start before t = left_by (book_after start before) (prepare t)

-- of a book that an open left: before, between, since and rest are any calls, as they came
pub record Mission (start : Book) : Type 0 where
  -- as long as no accepted call ends it, it is RESERVED
  pub waits : (before since : List Came) (t : PrepareText) → is_accepted (book_after start before) (prepare t) ≡ true →
      none_reopens (prepared_in start before t) since ≡ true → none_ends t (prepared_in start before t) since ≡ true →
      state_in (book_after start (before ++ (prepare t ∷ since))) t.id ≡ some reserved
  -- the first accepted call that ends it settles its state, whatever calls follow but another accepted open
  pub ends : (before between rest : List Came) (t : PrepareText) (c : Came) (s : State) →
      is_accepted (book_after start before) (prepare t) ≡ true → none_ends t (prepared_in start before t) between ≡ true →
      ending_on t (book_after (prepared_in start before t) between) c ≡ s → is_reserved s ≡ false →
      none_reopens (prepared_in start before t) (between ++ (c ∷ rest)) ≡ true →
      state_in (book_after start (before ++ (prepare t ∷ (between ++ (c ∷ rest))))) t.id ≡ some s
