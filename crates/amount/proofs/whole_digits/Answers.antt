-- `amount::whole_digits` meets its contract: in each turn the rest of the text reads as the whole text does.
use borrow.Author.Rules.{rules}
use Prim.Native.Nat.{◌-◌}
use mathlib.Core.Path.{◌≡◌, ◌∙◌}
use native.Mathlib.Omega.{arith}
use lib.ListN.{get_or}
use Rattle.amount.proofs.Turns.{begin_zero, begin_digit, whole_at, whole_stop_at, whole_limit, grown, room}
use Rattle.amount.proofs.whole_digits.Goals as goal

pub returns-then-first-eq48 : goal.returns-then-first-eq48
returns-then-first-eq48 c = (search rules, begin_zero c.args.s.now (search rules) (search rules))

pub loop-i-init : goal.loop-i-init
loop-i-init c = (omega arith, begin_digit c.args.s.now (omega arith) (omega arith) (omega arith))

pub returns-then-b : goal.returns-then-b
returns-then-b c =
    let s = c.args.s.now in
    let l = c.loop-i in
    (omega arith, whole_stop_at s l.i l.units (18 - l.i) (omega arith) (search rules) ∙ l.invariant.1)

pub overflow_mul-units : goal.overflow_mul-units
overflow_mul-units c =
    let l = c.loop-i in
    omega (arith, room l.units l.i l.invariant.0 (omega arith))

pub overflow_add-units : goal.overflow_add-units
overflow_add-units c =
    let l = c.loop-i in
    omega (arith, room l.units l.i l.invariant.0 (omega arith))

pub loop-i-preserved : goal.loop-i-preserved
loop-i-preserved c =
    let s = c.args.s.now in
    let l = c.loop-i in (
      grown l.units l.i (get_or s l.i 0 - 48) l.invariant.0 (search rules),
      whole_at s l.i l.units (omega arith) (omega arith) (search rules) (search rules) ∙ l.invariant.1,
    )

pub returns : goal.returns
returns c =
    let l = c.loop-i in
    let e : c.min-limit.result ≡ l.i = omega arith in
    (omega arith, rw e (whole_limit c.args.s.now l.i l.units (omega arith) ∙ l.invariant.1))
