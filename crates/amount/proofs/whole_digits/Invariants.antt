use Prim.Native.Nat.{◌-◌, ◌^◌, ◌<◌}
use mathlib.Core.Path.{◌≡◌}
use lib.ListN.{drop}
use Rattle.amount.specs.Amount.{read_amount}
use Rattle.amount.specs.Rest.{whole_rest}
use Rattle.amount.proofs.whole_digits.Given as goal

abbrev pub invariant-loop-i : goal.invariant-loop-i
invariant-loop-i l =
    (l.units < 10 ^ l.i) × (whole_rest (18 - l.i) l.i l.units (drop l.i l.s) ≡ read_amount l.s)
