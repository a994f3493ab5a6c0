use Prim.Native.Nat.{◌-◌}
use mathlib.Core.Path.{◌≡◌}
use lib.ListN.{length}
use lib.Seq.{sets}
use Rattle.octets.specs.Decimal.{in_digits}
use Rattle.amount.proofs.put_digits.Given as goal

abbrev pub invariant-loop-k : goal.invariant-loop-k
invariant-loop-k l =
    (length l.out ≡ length l.initial.out)
    × (sets l.out l.from (in_digits (l.k - l.from) l.rest) ≡ sets l.initial.out l.from (in_digits (l.to - l.from) l.n))
