-- `before_month`: the law of the even months, before March and from it on.
use native.Mathlib.Omega.{arith}
use mathlib.Core.Path.{ap, ◌∙◌}
use Prim.Native.Nat.{ℕ, ◌-◌}
use Rattle.datetime.proofs.Formulas.{even, starts_early, starts_late, at_most}
use Rattle.datetime.proofs.calendar.before_month.Goals as goal

pub returns-then-m-le2 : goal.returns-then-m-le2
returns-then-m-le2 c = (starts_early c.args.l c.args.m (omega arith) (omega arith), omega arith)

pub returns : goal.returns
returns c = let a = c.args in (
  ap (λ (x : ℕ). even a.m - x) c.lack-less.ensures.0 ∙ starts_late a.l a.m (omega arith) (omega arith),
  at_most a.l a.m c.lack-less.result c.lack-less.ensures.0 c.requires.1,
)
