-- `put_next`: the number behind the space.
use native.Mathlib.Omega.{arith}
use mathlib.Core.Path.{ap, ◌∙◌}
use lib.ListN.{length, length-set}
use lib.Seq.{length-sets}
use Rattle.answer_line.proofs.Texts.{put_more, byte_put}
use Rattle.answer_line.proofs.put_next.Goals as goal

pub put_number-requires : goal.put_number-requires
put_number-requires c = simp length-set (omega arith)

pub shape_of-out : goal.shape_of-out
shape_of-out c = ap length c.put_number.ensures.stored ∙ simp (length-sets, length-set)

pub returns : goal.returns
returns c =
    put_more (byte_put c.args.out.now c.args.at 32) c.put_number.ensures
