-- `year_of`: the day lies in the year of its century that the formula gives.
use mathlib.Core.Path.{refl}
use Rattle.datetime.proofs.Formulas.{year_in}
use Rattle.datetime.proofs.calendar.year_of.Goals as goal

pub returns : goal.returns
returns c =
    let at = c.century_of-century in
    (year_in c.args.n c.requires.0 c.requires.1 at.result c.before_century.result c.filled.result _ at.ensures.0
    c.before_century.ensures.0 c.filled.ensures.0 refl).0
