-- `date`: part by part.
use mathlib.Core.Path.{ap, ◌∙◌}
use mathlib.Core.Bool.{Bool}
use Prim.Native.Nat.{ℕ}
use Prim.Native.Char.{code}
use Rattle.std.specs.Prelude.{Ok}
use Rattle.datetime.specs.Plain.{month_length}
use Rattle.datetime.specs.Reading.{marked, date}
use Rattle.datetime.proofs.Steps.{went, halts}
use Rattle.datetime.proofs.reader.date.Goals as goal

pub returns-in_err-century-clause-value : goal.returns-in_err-century-clause-value
unfolding date
returns-in_err-century-clause-value c = halts _ c.two_digits.ensures.value c.from_residual.ensures.1 c.in_err-century.was

pub returns-in_err-place-clause-value : goal.returns-in_err-place-clause-value
unfolding date
returns-in_err-place-clause-value c =
    went _ c.two_digits.ensures.value c.in_ok-century.was
    (halts _ c.two_digits-2.ensures.value c.from_residual-in_err-place.ensures.1 c.in_err-place.was)

pub returns-in_err-month-clause-value : goal.returns-in_err-month-clause-value
unfolding date
returns-in_err-month-clause-value c =
    went _ c.two_digits.ensures.value c.in_ok-century.was (went _ c.two_digits-2.ensures.value c.in_ok-place.was
    (halts _ c.marked.ensures.value c.from_residual-in_err-month.ensures.1 c.in_err-month.was))

pub returns-in_err-day-clause-value : goal.returns-in_err-day-clause-value
unfolding date
returns-in_err-day-clause-value c =
    let days = c.month_days.ensures.0 ∙ ap (λ (l : Bool). month_length l c.in_ok-month.month) c.is_leap.ensures in
    went _ c.two_digits.ensures.value c.in_ok-century.was (went _ c.two_digits-2.ensures.value c.in_ok-place.was
    (went _ c.marked.ensures.value c.in_ok-month.was
    (halts _ (c.marked-2.ensures.value ∙ ap (λ (n : ℕ). marked c.args.s.now 7 (code "-") 1 n) days) c.from_residual-in_err-day.ensures.1
    c.in_err-day.was)))

pub returns-clause-value : goal.returns-clause-value
unfolding date
returns-clause-value c =
    let days = c.month_days.ensures.0 ∙ ap (λ (l : Bool). month_length l c.in_ok-month.month) c.is_leap.ensures in
    went _ c.two_digits.ensures.value c.in_ok-century.was (went _ c.two_digits-2.ensures.value c.in_ok-place.was
    (went _ c.marked.ensures.value c.in_ok-month.was
    (went _ (c.marked-2.ensures.value ∙ ap (λ (n : ℕ). marked c.args.s.now 7 (code "-") 1 n) days) c.in_ok-day.was
    (ap (λ (n : ℕ). Ok n) c.number.ensures.0))))
