-- `clock`: part by part.
use mathlib.Core.Path.{sym, ap, ◌∙◌}
use Rattle.datetime.specs.Plain.{is_digit}
use Rattle.datetime.specs.Reading.{clock}
use Rattle.datetime.proofs.Steps.{went, halts}
use Rattle.datetime.proofs.reader.clock.Goals as goal

pub returns-in_err-hour-clause-value : goal.returns-in_err-hour-clause-value
unfolding clock
returns-in_err-hour-clause-value c = halts _ c.marked.ensures.value c.from_residual.ensures.1 c.in_err-hour.was

pub returns-in_err-minute-clause-value : goal.returns-in_err-minute-clause-value
unfolding clock
returns-in_err-minute-clause-value c =
    went _ c.marked.ensures.value c.in_ok-hour.was
    (halts _ c.marked-2.ensures.value c.from_residual-in_err-minute.ensures.1 c.in_err-minute.was)

pub returns-in_err-second-clause-value : goal.returns-in_err-second-clause-value
unfolding clock
returns-in_err-second-clause-value c =
    went _ c.marked.ensures.value c.in_ok-hour.was (went _ c.marked-2.ensures.value c.in_ok-minute.was
    (halts _ c.marked-3.ensures.value c.from_residual-in_err-second.ensures.1 c.in_err-second.was))

pub returns-in_err-hundredth-clause-value : goal.returns-in_err-hundredth-clause-value
unfolding clock
returns-in_err-hundredth-clause-value c =
    went _ c.marked.ensures.value c.in_ok-hour.was (went _ c.marked-2.ensures.value c.in_ok-minute.was
    (went _ c.marked-3.ensures.value c.in_ok-second.was
    (halts _ c.marked-4.ensures.value c.from_residual-in_err-hundredth.ensures.1 c.in_err-hundredth.was)))

pub returns-then-not-is_ascii_digit-clause-value : goal.returns-then-not-is_ascii_digit-clause-value
unfolding clock
returns-then-not-is_ascii_digit-clause-value c =
    let no-digit = ap is_digit (sym c.at-last.ensures.0) ∙ sym c.is_ascii_digit.ensures.value ∙ c.if-not-is_ascii_digit.true in
    went _ c.marked.ensures.value c.in_ok-hour.was (went _ c.marked-2.ensures.value c.in_ok-minute.was
    (went _ c.marked-3.ensures.value c.in_ok-second.was (went _ c.marked-4.ensures.value c.in_ok-hundredth.was (rw no-digit))))

pub returns-clause-value : goal.returns-clause-value
unfolding clock
returns-clause-value c =
    let digit = ap is_digit (sym c.at-last.ensures.0) ∙ sym c.is_ascii_digit.ensures.value ∙ c.if-not-is_ascii_digit.false in
    went _ c.marked.ensures.value c.in_ok-hour.was (went _ c.marked-2.ensures.value c.in_ok-minute.was
    (went _ c.marked-3.ensures.value c.in_ok-second.was (went _ c.marked-4.ensures.value c.in_ok-hundredth.was
    (rw (digit, c.from.ensures, c.at-last.ensures.0)))))
