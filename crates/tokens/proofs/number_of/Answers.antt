-- `number_of` meets its contract: each byte is a digit, and the number so far is below 1000.
use Rattle.std.proofs.Common.{arith}
use Rattle.tokens.proofs.FourDigits.{digit_at}
use Rattle.tokens.proofs.number_of.Goals as goal

pub overflow_mul-code : goal.overflow_mul-code
overflow_mul-code c =
    let d = digit_at c.args.s.now c.requires c.loop-c.c-index c.loop-c-test.true in
    record { fits = omega (arith, c.loop-c.invariant, d.small) }

pub overflow_sub-c : goal.overflow_sub-c
overflow_sub-c c =
    let d = digit_at c.args.s.now c.requires c.loop-c.c-index c.loop-c-test.true in d.above

pub overflow_add-code : goal.overflow_add-code
overflow_add-code c =
    let d = digit_at c.args.s.now c.requires c.loop-c.c-index c.loop-c-test.true in
    record { fits = omega (arith, c.loop-c.invariant, d.small, d.below, c.from.ensures) }

pub loop-c-preserved : goal.loop-c-preserved
loop-c-preserved c =
    let d = digit_at c.args.s.now c.requires c.loop-c.c-index c.loop-c-test.true in
    omega (arith, c.loop-c.invariant, d.next, c.from.ensures)
