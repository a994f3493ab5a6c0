-- `days_before`: the count without a loop is the sum of the years.
use native.Mathlib.Omega.{arith}
use mathlib.Core.Path.{ap}
use Prim.Native.Nat.{ℕ, ◌+◌, ◌*◌, ◌/◌}
use Rattle.datetime.proofs.Days.{year_begins}
use Rattle.datetime.proofs.calendar.Year.days_before.Goals as goal

pub returns : goal.returns
returns c =
    let y = c.args.self in (
      year_begins y.century y.place _ c.from.result y.in_range.1
          (ap (λ (n : ℕ). n + (365 * y.place + (y.place + 3) / 4)) c.before_century.ensures.0) c.from.ensures,
      omega arith,
    )
