-- `date_of`: year, month and day as the definitions find them, step by step.
use mathlib.Core.Path.{sym, ◌∙◌}
use Prim.Native.Nat.{suc-le-suc, ◌+◌, ◌*◌}
use Rattle.datetime.proofs.Formulas.{began, within}
use Rattle.datetime.proofs.Texts.{leap_halves}
use Rattle.datetime.proofs.calendar.date_of.Goals as goal

pub overflow_sub-k : goal.overflow_sub-k
overflow_sub-k c =
    let y = c.year_of-year in
    began c.args.n (y.result.century * 100 + y.result.place) c.days_before.result c.requires.1 y.ensures c.days_before.ensures.0

pub month_of-month-requires : goal.month_of-month-requires
month_of-month-requires c =
    let y = c.year_of-year in
    within c.args.n (y.result.century * 100 + y.result.place) c.days_before.result c.requires.1 y.ensures c.days_before.ensures.0
    c.is_leap-l.result (c.is_leap-l.ensures ∙ sym (leap_halves y.result.century y.result.place (suc-le-suc y.result.in_range.1)))

pub day_of-day-requires : goal.day_of-day-requires
day_of-day-requires c =
    let y = c.year_of-year in
    within c.args.n (y.result.century * 100 + y.result.place) c.days_before.result c.requires.1 y.ensures c.days_before.ensures.0
    c.is_leap-l.result (c.is_leap-l.ensures ∙ sym (leap_halves y.result.century y.result.place (suc-le-suc y.result.in_range.1)))
