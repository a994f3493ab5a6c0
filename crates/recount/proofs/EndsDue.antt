-- A clock step ends every transfer that is due, in the book as in the past.
use Prim.Native.Nat.{ℕ, ◌+◌}
use mathlib.Core.Path.{◌≡◌, refl, sym, ap, ◌∙◌}
use mathlib.Core.Bool.{Bool, true, false, cond, ◌&&◌, ◌||◌}
use mathlib.Core.List.{List}
use native.Mathlib.Omega.{arith}
use lib.IntN.{pos, ◌-ℤ◌}
use lib.Signed.{le_z}
use Rattle.octets.specs.Lists.{sum}
use Rattle.octets.specs.Parts.{same}
use Rattle.datetime.specs.Instant.{instant_of}
use Rattle.rules.specs.declared.Answer.{Answer}
use Rattle.rules.specs.Calls.{Text, Call, time}
use Rattle.rules.specs.View.{State, reserved, committed, aborted, expired, Transfer}
use Rattle.shape.specs.Reading.{Book}
use Rattle.shape.specs.Shape.{shape}
use Rattle.ledger.specs.Ledger.{transfers_in, in_state, is_reserved, expired_at, due_from, released}
use Rattle.ledger.specs.Laws.{Swept}
use Rattle.recount.specs.Recount.{Past, Grant, is_committed, sent, received, position_of, entered}
use Rattle.recount.proofs.Sums.{sum_ext, sum-add, sum-map}
use Rattle.recount.proofs.Given.{wide}
use Rattle.recount.proofs.Agrees.{transfers_by, grants_by, member_by, Agrees}
use Rattle.recount.proofs.Positions.{position-lowered}
use Rattle.recount.proofs.Noted.{advanced, sum_ends, grants_kept, orderly_ends}
use Rattle.recount.proofs.Stays.{members_stay, agrees_still}

-- a transfer after a clock step, what it then adds to its payer's position, and to its payee's
module _ (instant : Text) (places : ℕ) (t : Transfer) where
  abbrev is_past : Bool
  is_past = le_z t.content.expiration (instant_of instant)

  time_expires : advanced (time instant places) t ≡ expired_at (instant_of instant) t
  time_expires = go t.state
    where
      by : (d : Bool) → in_state (cond d expired reserved) t ≡ cond d (in_state expired t) (in_state reserved t)
      by true = refl
      by false = refl

      go : (s : State) → advanced (time instant places) (in_state s t) ≡ expired_at (instant_of instant) (in_state s t)
      go reserved = by is_past
      go (committed f) = refl
      go (aborted n) = refl
      go expired = refl

  module _ (key : List ℕ) where
    abbrev amount_if : Bool → ℕ
    amount_if d = cond d t.content.amount 0

    sent_expires : sent key (advanced (time instant places) t) + due_from (instant_of instant) key t ≡ sent key t
    sent_expires = go t.state
      where
        by : (d p : Bool) →
            amount_if (p && (is_reserved (cond d expired reserved) || is_committed (cond d expired reserved))) + amount_if (d && p)
            ≡ amount_if (p && true)
        by true true = omega arith
        by true false = omega arith
        by false true = omega arith
        by false false = omega arith

        go : (s : State) → sent key (advanced (time instant places) (in_state s t)) + due_from (instant_of instant) key (in_state s t)
            ≡ sent key (in_state s t)
        go reserved = by is_past (same t.content.payer key)
        go (committed f) = omega arith
        go (aborted n) = omega arith
        go expired = omega arith

    received_expires : received key (advanced (time instant places) t) ≡ received key t
    received_expires = go t.state
      where
        by : (d p : Bool) → amount_if (p && is_committed (cond d expired reserved)) ≡ amount_if (p && false)
        by true p = refl
        by false p = refl

        go : (s : State) → received key (advanced (time instant places) (in_state s t)) ≡ received key (in_state s t)
        go reserved = by is_past (same t.content.payee key)
        go (committed f) = refl
        go (aborted n) = refl
        go expired = refl

module _ (b after : Book) (p : Past) (a : Agrees b p) (instant : Text) (places : ℕ) (answer : Answer)
    (l : Swept b after (instant_of instant)) where
  abbrev call : Call
  call = time instant places

  abbrev past' : Past
  past' = entered p (time instant places) answer

  swept-sums : (f : Transfer → ℕ) → sum f (transfers_by past') ≡ sum (λ t. f (advanced call t)) (transfers_by p)
  swept-sums = sum_ends p.entries (record { call = time instant places; answer = answer }) refl

  swept_transfers : (f : Transfer → ℕ) → sum f (transfers_in after) ≡ sum f (transfers_by past')
  swept_transfers f =
      l.transfers f ∙ sum-map f (expired_at (instant_of instant)) (transfers_in b)
      ∙ a.transfers (λ t. f (expired_at (instant_of instant) t))
      ∙ sym (swept-sums f
      ∙ sum_ext (λ t. f (advanced call t)) (λ t. f (expired_at (instant_of instant) t)) (λ t. ap f (time_expires instant places t))
      (transfers_by p))

  -- "the payer's position falls": by the sum of what is due
  swept_member : (g : Grant) → released (instant_of instant) (transfers_in b) (member_by (transfers_by p) g) ≡ member_by (transfers_by past') g
  swept_member g =
      let key = g.key in
      let due = due_from (instant_of instant) key in
      let e : position_of (transfers_by p) key -ℤ pos (sum due (transfers_in b)) ≡ position_of (transfers_by past') key =
      position-lowered (transfers_by p) (transfers_by past') key (sum due (transfers_in b))
      (omega (
        arith,
        a.transfers due,
        swept-sums (sent key),
        swept-sums (received key),
        sum_ext (λ t. sent key (advanced call t) + due t) (sent key) (λ t. sent_expires instant places t key) (transfers_by p),
        sum-add (λ t. sent key (advanced call t)) due (transfers_by p),
        sum_ext (λ t. received key (advanced call t)) (received key) (λ t. received_expires instant places t key) (transfers_by p),
      )) in
      λ i. record { key = g.key; standing = record { cap = g.cap; position = e i } }

  pub swept-agrees : shape after ≡ true → wide after → Agrees after past'
  swept-agrees s w =
      agrees_still b after p a call answer s w l.frame l.clock
      (members_stay b after p a call answer (released (instant_of instant) (transfers_in b)) l.members refl swept_member)
      swept_transfers
      (rw (grants_kept p.entries (record { call = time instant places; answer = answer }) refl)
      (orderly_ends call (transfers_by p) (transfers_by past') (grants_by p) swept-sums a.orderly))
