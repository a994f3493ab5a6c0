-- `day_of`: the formula is the definition at each day of a year, by a computed test.
use native.Mathlib.Omega.{arith}
use mathlib.Core.Path.{ap, ◌∙◌}
use Prim.Native.Nat.{ℕ, ◌+◌, ◌*◌, ◌/◌, ◌%◌}
use Rattle.datetime.proofs.Formulas.{day_at}
use Rattle.datetime.proofs.calendar.day_of.Goals as goal

pub returns : goal.returns
returns c = (
  ap (λ (x : ℕ). (12 * x + 373) % 367 / 12 + 1) c.evened.ensures.0 ∙ day_at c.args.l c.args.k c.requires,
  omega arith,
  omega arith,
)
