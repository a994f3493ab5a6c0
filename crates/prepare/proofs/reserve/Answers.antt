-- `reserve`: the head by the raised position, the bytes by the record that comes home to its slot.
use Rattle.std.proofs.Common.{◌*◌, ap, ◌∙◌}
use lib.ListN.{length}
use lib.Seq.{sets}
use Rattle.record.proofs.Fields.{length-new}
use Rattle.record.proofs.Rows.{row_home}
use Rattle.prepare.specs.Effect.{raised}
use Rattle.prepare.proofs.reserve.Goals as goal

pub returns : goal.returns
unfolding raised
returns c =
    let a = c.args in
    let home = row_home a.opened.now c.write_new.new.part a.r.slot c.requires.inside (ap length c.write_new.ensures ∙ length-new _ _ _ _) in (
      rw (c.reply.ensures, c.with_position-next.ensures, c.raised-position.ensures),
      home ∙ ap (sets a.opened.now (a.r.slot * 160)) c.write_new.ensures,
    )
