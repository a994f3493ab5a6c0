-- A fulfilment or an abort ends one transfer, in the book as in the past.
use Prim.Native.Nat.{ℕ, ◌+◌}
use mathlib.Core.Path.{◌≡◌, sym, ap, ◌∙◌, subst}
use mathlib.Core.Bool.{Bool, true, false, cond}
use mathlib.Core.List.{List}
use mathlib.Core.Option.{none, some}
use native.Mathlib.Omega.{arith}
use lib.IntN.{pos, ◌-ℤ◌}
use Rattle.octets.specs.Lists.{first, sum}
use Rattle.octets.specs.Parts.{same}
use Rattle.rules.specs.declared.Answer.{Answer}
use Rattle.rules.specs.Calls.{Call}
use Rattle.rules.specs.View.{State, reserved, committed, aborted, Transfer}
use Rattle.shape.specs.Reading.{Book}
use Rattle.shape.specs.Shape.{shape}
use Rattle.ledger.specs.Ledger.{in_state, moved_at}
use Rattle.ledger.specs.Laws.{Ended}
use Rattle.recount.specs.Recount.{Past, Entry, ending_by, or_else, prepared_by, granted_by, clock_by, or_still, sent, received, position_of, has_id, entered}
use Rattle.recount.proofs.Sums.{one_changed}
use Rattle.recount.proofs.Given.{wide}
use Rattle.recount.proofs.Agrees.{transfers_by, grants_by, Agrees}
use Rattle.recount.proofs.Positions.{position-same, position-lowered, moved_by, and-true, and-false}
use Rattle.recount.proofs.Noted.{advanced, idle, sum_ends, grants_kept, orderly_ends}
use Rattle.recount.proofs.Stays.{members_stay, agrees_still}

-- an end in the state s lowers the position of the party by the amount
abbrev pub Settles : Transfer → State → List ℕ → Type 0
Settles t s party = (key : List ℕ) → sent key t + received key (in_state s t)
    ≡ sent key (in_state s t) + (received key t + cond (same party key) t.content.amount 0)

-- it is enough to see it of the transfer that is reserved
by_reserved : (t : Transfer) (s : State) (party : List ℕ) → t.state ≡ reserved → Settles (in_state reserved t) s party → Settles t s party
by_reserved t s party e h = subst (λ (z : State). Settles (in_state z t) s party) (sym e) h

pub commit_settles : (t : Transfer) (f : List ℕ) → t.state ≡ reserved → Settles t (committed f) t.content.payee
commit_settles t f e =
    by_reserved t (committed f) t.content.payee e (λ key.
    let is_payee = same t.content.payee key in
    omega (arith, and-true is_payee t.content.amount, and-false is_payee t.content.amount))

pub abort_settles : (t : Transfer) (code : ℕ) → t.state ≡ reserved → Settles t (aborted code) t.content.payer
abort_settles t code e =
    by_reserved t (aborted code) t.content.payer e (λ key.
    omega (
      arith,
      and-true (same t.content.payer key) t.content.amount,
      and-false (same t.content.payer key) t.content.amount,
      and-false (same t.content.payee key) t.content.amount,
    ))

-- the call c ends the transfer t of an id in the state s, and no other
module _ (b after : Book) (p : Past) (a : Agrees b p) (c : Call) (answer : Answer) (id : List ℕ) (t : Transfer) (s : State)
    (found : first (has_id id) (transfers_by p) ≡ some t)
    (still : t.state ≡ reserved)
    (hit : ending_by t.content c ≡ s)
    (miss : (u : Transfer) → has_id id u ≡ false → ending_by u.content c ≡ reserved)
    (nothing : prepared_by c ≡ none) (nobody : granted_by c ≡ none) (timeless : clock_by c ≡ none) where
  abbrev entry : Entry
  entry = record { call = c; answer = answer }

  abbrev past' : Past
  past' = entered p c answer

  ended-sums : (f : Transfer → ℕ) → sum f (transfers_by past') + f t ≡ sum f (transfers_by p) + f (in_state s t)
  ended-sums f =
      omega (
        arith,
        sum_ends p.entries entry nothing f,
        one_changed (has_id id) (advanced c) (λ u e. idle p.entries entry u (miss u e)) (transfers_by p) t found (a.orderly.once id) f,
        ap f (λ i. in_state (or_else (still i) (hit i)) t),
      )

  position_ends : (party : List ℕ) → Settles t s party → (key : List ℕ) →
      cond (same party key) (position_of (transfers_by p) key -ℤ pos t.content.amount) (position_of (transfers_by p) key)
      ≡ position_of (transfers_by past') key
  position_ends party settles key =
      go (same party key) (omega (arith, ended-sums (sent key), ended-sums (received key), settles key))
    where
      go : (d : Bool) →
          sum (sent key) (transfers_by p) + sum (received key) (transfers_by past')
          ≡ sum (sent key) (transfers_by past') + (sum (received key) (transfers_by p) + cond d t.content.amount 0) →
          cond d (position_of (transfers_by p) key -ℤ pos t.content.amount) (position_of (transfers_by p) key)
          ≡ position_of (transfers_by past') key
      go true h = position-lowered (transfers_by p) (transfers_by past') key t.content.amount h
      go false h = position-same (transfers_by p) (transfers_by past') key (omega arith)

  pub ended-agrees : (party : List ℕ) → Settles t s party → Ended b after t s party → shape after ≡ true → wide after → Agrees after past'
  ended-agrees party settles l sh w =
      agrees_still b after p a c answer sh w l.frame (l.clock ∙ ap (λ o. or_still o b.head.time) (sym timeless))
      (members_stay b after p a c answer (moved_at party (λ z. z -ℤ pos t.content.amount)) l.members nobody
      (λ g. moved_by (transfers_by p) (transfers_by past') party (λ z. z -ℤ pos t.content.amount) g
      (position_ends party settles g.key)))
      (λ f. omega (arith, l.transfers f, ended-sums f, a.transfers f))
      (rw (grants_kept p.entries entry nobody)
      (orderly_ends c (transfers_by p) (transfers_by past') (grants_by p) (sum_ends p.entries entry nothing) a.orderly))
