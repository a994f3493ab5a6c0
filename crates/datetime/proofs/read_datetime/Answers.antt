-- `read_datetime`: date, clock time and zone in turn, which is the value of a text of the form or where it stops.
use mathlib.Core.Path.{◌∙◌}
use Rattle.octets.proofs.Lists.{bytes}
use Rattle.datetime.specs.Reading.{reading}
use Rattle.datetime.proofs.Values.{reading_is}
use Rattle.datetime.proofs.Steps.{went, halts}
use Rattle.datetime.proofs.read_datetime.Goals as goal

pub returns-in_err-day : goal.returns-in_err-day
unfolding reading
returns-in_err-day c =
    halts _ c.date.ensures.value c.from_residual.ensures.1 c.in_err-day.was
    ∙ reading_is c.args.s.now (bytes c.args.s.now (λ k. (c.type_inv.s k).fits))

pub returns-in_err-time : goal.returns-in_err-time
unfolding reading
returns-in_err-time c =
    went _ c.date.ensures.value c.in_ok-day.was
    (halts _ c.clock.ensures.value c.from_residual-in_err-time.ensures.1 c.in_err-time.was)
    ∙ reading_is c.args.s.now (bytes c.args.s.now (λ k. (c.type_inv.s k).fits))

pub returns : goal.returns
unfolding reading
returns c =
    went _ c.date.ensures.value c.in_ok-day.was (went _ c.clock.ensures.value c.in_ok-time.was c.zoned.ensures)
    ∙ reading_is c.args.s.now (bytes c.args.s.now (λ k. (c.type_inv.s k).fits))
