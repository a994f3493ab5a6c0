-- `ended_book_ok`: the finished records are the first of the book.
use Rattle.std.proofs.Common.{◌∙◌, ap, length, arith}
use Rattle.std.proofs.lemmas.List.{length-take, length-drop, take_all}
use Rattle.octets.specs.Parts.{all_zero}
use Rattle.record.specs.Layout.{Row}
use Rattle.record.proofs.Rows.{length-rows, first_rows}
use Rattle.shape.specs.Scan.{ended_book_ok}
use Rattle.shape.proofs.records.ended_book_ok.Goals as goal

pub slice_bounds-all_ended-end : goal.slice_bounds-all_ended-end
slice_bounds-all_ended-end c = omega (arith, ap (length {A = Row}) c.records.ensures, length-rows, length-take {A = Row}, c.requires)

pub returns-then-all_ended : goal.returns-then-all_ended
unfolding ended_book_ok
returns-then-all_ended c =
    rw (← first_rows c.args.ended.now c.args.finished c.requires, ← c.records.ensures, ← c.all_ended.ensures, c.if-all_ended.true)
    (c.all_zero.ensures ∙ ap all_zero (take_all _ _ (simp length-drop (omega arith))))

pub returns-else-all_ended : goal.returns-else-all_ended
unfolding ended_book_ok
returns-else-all_ended c =
    rw (← first_rows c.args.ended.now c.args.finished c.requires, ← c.records.ensures, ← c.all_ended.ensures, c.if-all_ended.false)
