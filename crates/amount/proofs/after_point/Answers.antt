-- `amount::after_point` meets its contract: in each turn the rest of the text reads as all that stands after the point.
use borrow.Author.Rules.{rules}
use Prim.Native.Nat.{◌+◌, ◌-◌, ◌*◌, ◌/◌}
use mathlib.Core.Path.{refl}
use native.Mathlib.Omega.{arith}
use native.Mathlib.Decide.{ℕ_discrete}
use lib.ListN.{drop, get_or}
use Rattle.amount.specs.Rest.{places_rest}
use Rattle.amount.proofs.Turns.{Reading, reading_small, reading_full, reading_stop, reading_digit, reading_open, reading_end}
use Rattle.amount.proofs.after_point.Goals as goal

pub loop-i-init : goal.loop-i-init
loop-i-init c = record { k = 4; few = omega arith; weighs = refl; small = omega arith; rest = refl }

pub returns-then-weight-eq0 : goal.returns-then-weight-eq0
returns-then-weight-eq0 c = reading_full c.loop-i.invariant c.loop-i-test.true c.if-weight-eq0.true

pub returns-then-b-lowest : goal.returns-then-b-lowest
returns-then-b-lowest c =
    let l = c.loop-i in
    let w = c.lowest.ensures in
    reading_stop l.invariant c.loop-i-test.true c.if-weight-eq0.false
    (λ x y. (search rules, elim (ℕ_discrete l.weight 1) [ yes e ↦ e | no n ↦ absurd (let r = w.3 n in search rules) ]))

-- the next turn's reading
next : (c : goal.Else-b-lowest) →
    let a = c.args in
    let l = c.loop-i in
    let b = get_or a.s.now l.i 0 in
    Reading (places_rest 4 46 a.from a.units 0 (drop a.from a.s.now)) a.s.now a.units
    (l.remainder + (b - 48) * l.weight) (l.weight / 10) b (l.i + 1)
next c =
    let w = c.lowest.ensures in
    reading_digit c.loop-i.invariant c.loop-i-test.true c.if-weight-eq0.false (search rules) (search rules)
    (λ e. let r = w.2 e in search rules)

pub overflow_add-remainder : goal.overflow_add-remainder
overflow_add-remainder c = omega (arith, reading_small (next c))

pub loop-i-preserved : goal.loop-i-preserved
loop-i-preserved c = next c

pub returns-then-last-le48 : goal.returns-then-last-le48
returns-then-last-le48 c = reading_open c.loop-i.invariant (search rules) c.if-last-le48.true

pub returns : goal.returns
returns c = reading_end c.loop-i.invariant (search rules) c.if-last-le48.false
