-- `month_of`: the formula is the definition at each day of a year, by a computed test.
use native.Mathlib.Omega.{arith}
use mathlib.Core.Path.{ap, ◌∙◌}
use Prim.Native.Nat.{ℕ, ◌+◌, ◌*◌, ◌/◌}
use Rattle.datetime.proofs.Formulas.{month_at}
use Rattle.datetime.proofs.calendar.month_of.Goals as goal

pub returns : goal.returns
returns c = (
  ap (λ (x : ℕ). (12 * x + 373) / 367) c.evened.ensures.0 ∙ month_at c.args.l c.args.k c.requires,
  omega arith,
  omega arith,
)
