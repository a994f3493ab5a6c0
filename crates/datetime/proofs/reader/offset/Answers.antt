-- `offset`: part by part.
use Rattle.datetime.specs.Reading.{offset}
use mathlib.Core.Path.{refl}
use Rattle.datetime.proofs.Steps.{went, halts}
use Rattle.datetime.proofs.reader.offset.Goals as goal

pub returns-in_err-hour-clause-value : goal.returns-in_err-hour-clause-value
unfolding offset
returns-in_err-hour-clause-value c = halts _ c.two_digits.ensures.value c.from_residual.ensures.1 c.in_err-hour.was

pub returns-in_err-minute-clause-value : goal.returns-in_err-minute-clause-value
unfolding offset
returns-in_err-minute-clause-value c =
    went _ c.two_digits.ensures.value c.in_ok-hour.was
    (halts _ c.marked.ensures.value c.from_residual-in_err-minute.ensures.1 c.in_err-minute.was)

pub returns-in_err-ended-clause-value : goal.returns-in_err-ended-clause-value
unfolding offset
returns-in_err-ended-clause-value c =
    went _ c.two_digits.ensures.value c.in_ok-hour.was (went _ c.marked.ensures.value c.in_ok-minute.was
    (halts _ c.ended.ensures c.from_residual-in_err-ended.ensures.1 c.in_err-ended.was))

pub returns-clause-value : goal.returns-clause-value
unfolding offset
returns-clause-value c =
    went _ c.two_digits.ensures.value c.in_ok-hour.was (went _ c.marked.ensures.value c.in_ok-minute.was
    (went _ c.ended.ensures c.in_ok-ended.was refl))
