-- `move_ended`: the slot comes home cleared; the place holds the record, and comes home with its ending set.
use Prim.Native.Nat.{◌*◌}
use mathlib.Core.Path.{ap, ◌∙◌}
use lib.Seq.{sets}
use Rattle.record.specs.Layout.{ended_row}
use Rattle.record.proofs.Rows.{lent_row, row_cleared}
use Rattle.record.proofs.move_ended.Goals as goal

pub returns : goal.returns
returns c =
    let a = c.args in
    let anew = ended_row a.e.state a.e.by a.e.code a.e.fulfilment in (
      row_cleared a.opened.now c.clear.new.s a.slot c.requires.0 c.clear.ensures,
      c.put.ensures
          ∙ ap (sets a.ended.now (a.place * 160))
          (c.set_ending.ensures ∙ ap anew (c.copy_from_slice.ensures.after ∙ lent_row a.opened.now a.slot)),
    )
