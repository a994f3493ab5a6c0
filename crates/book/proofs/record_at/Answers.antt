-- `record_at`: one record of one of the books.
use mathlib.Core.Path.{ap}
use mathlib.Core.List.{[]}
use native.Mathlib.Omega.{arith}
use lib.ListN.{length}
use Rattle.record.specs.Layout.{Row}
use Rattle.record.proofs.Rows.{record_at, length-rows}
use Rattle.book.proofs.record_at.Goals as goal

pub bounds-records-k : goal.bounds-records-k
bounds-records-k c =
    omega (arith, ap (length {A = Row}) c.records.ensures, length-rows, rw c.in-Opened.is at c.requires)

pub bounds-records-k-in-Ended : goal.bounds-records-k-in-Ended
bounds-records-k-in-Ended c =
    omega (arith, ap (length {A = Row}) c.records-in-Ended.ensures, length-rows, rw c.in-Ended.is at c.requires)

pub returns-in-Opened : goal.returns-in-Opened
returns-in-Opened c =
    rw (c.records.ensures, record_at c.args.opened.now c.in-Opened.k [] (rw c.in-Opened.is at c.requires), c.in-Opened.is)

pub returns-in-Ended : goal.returns-in-Ended
returns-in-Ended c =
    rw (c.records-in-Ended.ensures, record_at c.args.ended.now c.in-Ended.k [] (rw c.in-Ended.is at c.requires), c.in-Ended.is)
