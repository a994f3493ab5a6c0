use Prim.Native.Nat.{◌^◌, ◌≤◌, ◌<◌}
use mathlib.Core.Path.{◌≡◌}
use Rattle.amount.specs.Amount.{places}
use Rattle.amount.proofs.trimmed.Given as goal

abbrev pub invariant-loop-number : goal.invariant-loop-number
invariant-loop-number l =
    (l.count ≤ 4) × (0 < l.number) × (l.number < 10 ^ l.count) × (places 4 l.remainder ≡ places l.count l.number)

abbrev pub decreases-loop-number : goal.decreases-loop-number
decreases-loop-number l = l.number
