use Prim.Native.Nat.{ℕ, ◌-◌, ◌^◌, ◌≤◌, ◌<◌}
use mathlib.Core.Path.{◌≡◌}
use Rattle.amount.proofs.digit_count.Given as goal

abbrev pub Counting : ℕ → ℕ → ℕ → Type 0
Counting n count power = (1 ≤ count) × (count ≤ 18) × (1 ≤ power) × (power ≡ 10 ^ (count - 1)) × (1 < count → power ≤ n)

abbrev pub invariant-loop-power : goal.invariant-loop-power
invariant-loop-power l = Counting l.n l.count l.power

abbrev pub decreases-loop-power : goal.decreases-loop-power
decreases-loop-power l = l.n - l.power

abbrev pub invariant-loop-power-2 : goal.invariant-loop-power-2
invariant-loop-power-2 l = Counting l.n l.count l.power

abbrev pub decreases-loop-power-2 : goal.decreases-loop-power-2
decreases-loop-power-2 l = l.n - l.power
