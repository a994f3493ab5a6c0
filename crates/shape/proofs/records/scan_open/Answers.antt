-- `scan_open`: what is known of the first slots, and of one more.
use Rattle.std.proofs.Common.{◌≡◌, ◌∙◌, sym, cond, [], get_or, arith}
use Rattle.record.proofs.Fields.{num_byte}
use Rattle.shape.specs.Reading.{is_taken}
use Rattle.shape.proofs.Slots.{book_wrong, number_of_test, count_over, count-step, count-done}
use Rattle.shape.proofs.records.scan_open.Goals as goal

pub returns-then-not-open_ok-clause-found : goal.returns-then-not-open_ok-clause-found
returns-then-not-open_ok-clause-found c =
    book_wrong c.args.accounts c.args.slots.now c.loop-row.row-index c.loop-row-test.true
    (sym c.open_ok.ensures ∙ c.if-not-open_ok.true)

pub returns-then-reserved-gt-MOST_RESERVED-clause-found : goal.returns-then-reserved-gt-MOST_RESERVED-clause-found
returns-then-reserved-gt-MOST_RESERVED-clause-found c =
    let l = c.loop-row in
    let amount = c.amount_of-amount.ensures in
    count_over c.args.accounts c.args.slots.now l.row-index l.taken l.reserved l.invariant _ _ c.loop-row-test.true
    (c.from.ensures ∙ amount.0) (c.from-in-loop-row.ensures ∙ amount.1) (omega (arith, c.if-reserved-gt-MOST_RESERVED.true))

pub loop-row-preserved : goal.loop-row-preserved
loop-row-preserved c =
    let l = c.loop-row in
    let row = get_or c.args.slots.now l.row-index [] in
    let taken : c.from-taken.result ≡ cond (is_taken row) 1 0 =
    rw (num_byte 16 row (omega (arith, c.told-slots l.row-index c.loop-row-test.true))) (c.from-taken.ensures ∙ number_of_test _) in
    let amount = c.amount_of-amount.ensures in
    count-step c.args.accounts c.args.slots.now l.row-index l.taken l.reserved l.invariant _ _ c.loop-row-test.true
    (c.from.ensures ∙ amount.0) (c.from-in-loop-row.ensures ∙ amount.1) _ (sym c.open_ok.ensures ∙ c.if-not-open_ok.false) taken
    (omega (arith, c.if-reserved-gt-MOST_RESERVED.false))

pub returns-clause-found : goal.returns-clause-found
returns-clause-found c =
    let l = c.loop-row in
    count-done c.args.accounts c.args.slots.now l.row-index l.taken l.reserved l.invariant c.loop-row-test.false
