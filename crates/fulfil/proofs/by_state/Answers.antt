-- `by_state`: the bytes 16 and 19 tell the state.
use native.Mathlib.Omega.{arith}
use Rattle.record.specs.Layout.{get}
use Rattle.octets.proofs.Equal.{same_by_pairs}
use Rattle.shape.specs.Reading.{transfer_of}
use Rattle.book.proofs.Ends.{state_reserved, state_committed, state_aborted, state_expired}
use Rattle.fulfil.proofs.by_state.Goals as goal

pub returns-in-2 : goal.returns-in-2
unfolding transfer_of
returns-in-2 c = λ names. rw (state_reserved c.args.row.now c.told-row c.in-2.is, c.matching.ensures)

pub returns-in-3 : goal.returns-in-3
unfolding transfer_of get
returns-in-3 c = λ names.
    rw (state_committed c.args.row.now c.told-row c.in-3.is, c.resend.ensures, c.eq.ensures, same_by_pairs)

pub returns-in_default : goal.returns-in_default
unfolding transfer_of
returns-in_default c = λ names.
    rw (state_aborted c.args.row.now c.told-row (λ e. omega arith) (λ e. omega arith) c.if-row-eq-BY_PAYEE.true)

pub returns-in_default-2 : goal.returns-in_default-2
unfolding transfer_of
returns-in_default-2 c = λ names.
    rw (state_expired c.args.row.now c.told-row (λ e. omega arith) (λ e. omega arith) c.if-row-eq-BY_PAYEE.false)
