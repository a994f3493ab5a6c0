-- `amount::digit_count` meets its contract: in both loops the power is that of the count less one, and not above the number.
use Prim.Native.Nat.{ℕ, ◌+◌, ◌*◌, ◌^◌, ◌≤◌, ◌<◌}
use mathlib.Core.Path.{refl}
use native.Mathlib.Omega.{arith}
use Rattle.amount.proofs.Digits.{count_short, count-step, counted}
use Rattle.amount.proofs.digit_count.Invariants.{Counting}
use Rattle.amount.proofs.digit_count.Goals as goal

-- k digits more
more : (n count power k : ℕ) → n < 10 ^ 18 → Counting n count power → power * 10 ^ k ≤ n → 1 ≤ power * 10 ^ k →
    Counting n (count + k) (power * 10 ^ k)
more n count power k b i h l =
    let e = count-step n count power i.0 i.3 k in
    let a : 1 ≤ count + k = (let x = i.0 in omega arith) in
    (a, count_short n (count + k) (power * 10 ^ k) a e h b, l, e, λ z. h)

pub loop-power-init : goal.loop-power-init
loop-power-init c = (omega arith, omega arith, omega arith, refl, λ h. absurd (omega arith))

pub loop-power-preserved : goal.loop-power-preserved
loop-power-preserved c =
    let l = c.loop-power in
    more c.args.n l.count l.power 4 (omega arith) l.invariant (omega arith) (omega arith)

pub loop-power-2-init : goal.loop-power-2-init
loop-power-2-init c = c.loop-power.invariant

pub loop-power-2-preserved : goal.loop-power-2-preserved
loop-power-2-preserved c =
    let l = c.loop-power-2 in
    more c.args.n l.count l.power 1 (omega arith) l.invariant (omega arith) (omega arith)

pub returns : goal.returns
returns c =
    let l = c.loop-power-2 in
    let n = c.args.n in
    (l.invariant.1, counted n l.count l.power l.invariant.0 l.invariant.3 l.invariant.1 l.invariant.4 (omega arith))
