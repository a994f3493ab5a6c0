-- `first`: of the whole book the first n records are searched.
use mathlib.Core.Path.{ap, ◌∙◌}
use native.Mathlib.Omega.{arith}
use lib.ListN.{length, length-take}
use Rattle.record.specs.Layout.{Row}
use Rattle.record.specs.Rows.{holds}
use Rattle.record.proofs.Rows.{length-rows, position-first}
use Rattle.book.proofs.first.Goals as goal

pub slice_bounds-find-end : goal.slice_bounds-find-end
slice_bounds-find-end c =
    omega (arith, c.from.ensures, ap (length {A = Row}) c.records.ensures, length-rows, length-take {A = Row}, c.requires)

pub returns : goal.returns
returns c =
    rw (c.records.ensures, c.from.ensures) at c.find.ensures ∙ position-first c.args.book.now (holds c.args.id) c.args.n c.requires
