-- What a record reads as: a new one, one that ended, and one beside which there are more accounts.
use Prim.Native.Nat.{ℕ, ◌<◌, ◌^◌}
use mathlib.Core.Path.{◌≡◌, ap, ◌∙◌}
use mathlib.Core.Bool.{cond}
use mathlib.Core.List.{List, [], ◌++◌}
use native.Mathlib.Omega.{arith}
use lib.Dec.{eqb}
use lib.ListN.{length, get_or, get_or-append}
use mir.Syntax.{w64}
use mir.Val.{SFits}
use Rattle.account.specs.Position.{worth, InRange}
use Rattle.record.specs.declared.Content.{Content}
use Rattle.record.specs.Layout.{Row, num, ended_row, new_row, payer_field, payee_field, code_field}
use Rattle.record.proofs.Fields.{Sized, new_id, new_state, new-payer, new-payee, new-amount, new_condition, new_expiration, new_packet, new-number}
use Rattle.record.proofs.Fields.{length-ended, ended_id, ended_state, ended_by, ended-code, ended-fulfilment, ended-payer, ended-payee, ended-amount}
use Rattle.record.proofs.Fields.{ended_condition, ended_expiration, ended_packet, ended-number}
use Rattle.rules.specs.Calls.{Content as Said}
use Rattle.rules.specs.View.{State, reserved, committed, aborted, expired, Transfer}
use Rattle.shape.specs.Reading.{transfer_of, state_of}
use Rattle.ledger.specs.Ledger.{in_state}

said_same : (c d : Said) → c.id ≡ d.id → c.payer ≡ d.payer → c.payee ≡ d.payee → c.amount ≡ d.amount →
    c.condition ≡ d.condition → c.expiration ≡ d.expiration → c.packet ≡ d.packet → c ≡ d
said_same c d e1 e2 e3 e4 e5 e6 e7 =
    λ i. record { id = e1 i; payer = e2 i; payee = e3 i; amount = e4 i; condition = e5 i; expiration = e6 i; packet = e7 i }

transfer_same : (s t : Transfer) → s.content ≡ t.content → s.number ≡ t.number → s.state ≡ t.state → s ≡ t
transfer_same s t e f g = λ i. record { content = e i; number = f i; state = g i }

-- a record ends in a state: it is the transfer that it was, in that state
abbrev pub EndsIn : List (List ℕ) → (Row → Row) → State → Type 0
EndsIn names ending s = (r : Row) → length r ≡ 160 →
    (length (ending r) ≡ 160) × (transfer_of names (ending r) ≡ in_state s (transfer_of names r))

module _ (names : List (List ℕ)) (state by code : ℕ) (fulfilment : List ℕ) (sized : length fulfilment ≡ 32) where
  abbrev ending : Row → Row
  ending = ended_row state by code fulfilment

  ends_in : (s : State) → ((r : Row) → length r ≡ 160 → state_of (ending r) ≡ s) → EndsIn names ending s
  unfolding transfer_of
  ends_in s e r long = (
    length-ended state by code fulfilment r ∙ long,
    transfer_same (transfer_of names (ending r)) (in_state s (transfer_of names r))
        (said_same (transfer_of names (ending r)).content (transfer_of names r).content
        (ended_id state by code fulfilment r sized long)
        (ap (λ (k : ℕ). get_or names k []) (ended-payer state by code fulfilment r sized long))
        (ap (λ (k : ℕ). get_or names k []) (ended-payee state by code fulfilment r sized long))
        (ended-amount state by code fulfilment r sized long)
        (ended_condition state by code fulfilment r sized long)
        (ended_expiration state by code fulfilment r sized long)
        (ended_packet state by code fulfilment r sized long))
        (ended-number state by code fulfilment r sized long) (e r long),
  )

  state_read : (r : Row) → length r ≡ 160 → state_of (ending r)
      ≡ cond (eqb state 2) reserved (cond (eqb state 3) (committed fulfilment) (cond (eqb by 2) (aborted (num code_field (ending r))) expired))
  unfolding state_of
  state_read r long = rw (
    ended_state state by code fulfilment r sized long,
    ended_by state by code fulfilment r sized long,
    ended-fulfilment state by code fulfilment r sized long,
  )

-- by a fulfilment, by the payee's abort with a code, by expiry
module _ (names : List (List ℕ)) (fulfilment : List ℕ) (sized : length fulfilment ≡ 32) where
  pub ends_committed : EndsIn names (ended_row 3 1 0 fulfilment) (committed fulfilment)
  ends_committed = ends_in names 3 1 0 fulfilment sized (committed fulfilment) (state_read names 3 1 0 fulfilment sized)

  pub ends_aborted : (code : ℕ) → code < 2 ^ 16 → EndsIn names (ended_row 4 2 code fulfilment) (aborted code)
  ends_aborted code h = ends_in names 4 2 code fulfilment sized (aborted code) (λ r long.
      state_read names 4 2 code fulfilment sized r long ∙ ap aborted (ended-code 4 2 code fulfilment r sized long h))

  pub ends_expired : EndsIn names (ended_row 4 3 3303 fulfilment) expired
  ends_expired = ends_in names 4 3 3303 fulfilment sized expired (state_read names 4 3 3303 fulfilment sized)

-- a new record is RESERVED, with the values and the parties that it was given
module _ (names : List (List ℕ)) (c : Content) (payer payee n : ℕ) (sized : Sized c) where
  new-reserved : state_of (new_row c payer payee n) ≡ reserved
  unfolding state_of
  new-reserved = rw (new_state c payer payee n sized)

  pub new_transfer_lem : (d : Said) → InRange c.amount → SFits w64 c.expiration → n < 2 ^ 32 → c.id ≡ d.id →
      get_or names payer [] ≡ d.payer → get_or names payee [] ≡ d.payee → worth c.amount ≡ d.amount → c.condition ≡ d.condition →
      c.expiration ≡ d.expiration → c.packet ≡ d.packet →
      transfer_of names (new_row c payer payee n) ≡ record { content = d; number = n; state = reserved }
  unfolding transfer_of
  new_transfer_lem d range fits small e1 e2 e3 e4 e5 e6 e7 =
      transfer_same (transfer_of names (new_row c payer payee n)) (record { content = d; number = n; state = reserved })
      (said_same (transfer_of names (new_row c payer payee n)).content d
      (new_id c payer payee n sized ∙ e1)
      (ap (λ (k : ℕ). get_or names k []) (new-payer c payer payee n sized) ∙ e2)
      (ap (λ (k : ℕ). get_or names k []) (new-payee c payer payee n sized) ∙ e3)
      (new-amount c payer payee n sized (omega (arith, range.units)) (omega (arith, range.remainder)) ∙ e4)
      (new_condition c payer payee n sized ∙ e5)
      (new_expiration c payer payee n sized fits ∙ e6)
      (new_packet c payer payee n sized ∙ e7))
      (new-number c payer payee n sized small) new-reserved

-- more accounts behind those of the parties
pub more_names : (names more : List (List ℕ)) (r : Row) → num payer_field r < length names → num payee_field r < length names →
    transfer_of (names ++ more) r ≡ transfer_of names r
unfolding transfer_of
more_names names more r h k = rw (get_or-append names more [] (num payer_field r) h, get_or-append names more [] (num payee_field r) k)
