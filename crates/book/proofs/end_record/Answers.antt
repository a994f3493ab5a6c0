-- `end_record`: the head by `settle`, the bytes by `move_ended`.
use mathlib.Core.Path.{ap}
use mathlib.Core.List.{[]}
use native.Mathlib.Omega.{arith}
use lib.ListN.{length}
use Rattle.record.specs.Layout.{Row}
use Rattle.record.proofs.Rows.{record_at, length-rows}
use Rattle.book.proofs.end_record.Goals as goal

pub bounds-records-slot : goal.bounds-records-slot
bounds-records-slot c = omega (arith, ap (length {A = Row}) c.records.ensures, length-rows, c.requires.slot)

pub settle-next-requires : goal.settle-next-requires
settle-next-requires c =
    rw (c.records.ensures, record_at c.args.opened.now c.args.slot [] c.requires.slot) c.requires.settles

pub returns : goal.returns
returns c =
    let moved = c.move_ended.ensures in
    let settled = c.settle-next.ensures in
    (rw (c.records.ensures, record_at c.args.opened.now c.args.slot [] c.requires.slot) at settled, moved.0, rw c.from.ensures at moved.1)
