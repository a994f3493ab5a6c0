-- `amount::text_length` meets its contract: the point is there where places are.
use Prim.Native.Nat.{ℕ}
use native.Mathlib.Omega.{arith}
use Rattle.amount.proofs.Digits.{length_none, length_some}
use Rattle.amount.proofs.text_length.Goals as goal

pub returns-then-count-eq0 : goal.returns-then-count-eq0
returns-then-count-eq0 c = λ (n : ℕ). omega (arith, length_none c.args.count n c.if-count-eq0.true)

pub returns : goal.returns
returns c = λ (n : ℕ). omega (arith, length_some c.args.count n c.if-count-eq0.false)
