-- `answer_lines`: what is left of the buffer waits for its newline, unless it fills the buffer.
use Rattle.std.proofs.Common.{◌≤◌, arith}
use lib.ListN.{length-take}
use Rattle.switch.proofs.Input.{dropped, moved}
use Rattle.switch.proofs.Switch.answer_lines.Goals as goal

pub returns-then-have-buf-clause-answered : goal.returns-then-have-buf-clause-answered
returns-then-have-buf-clause-answered c =
    let first : c.each_line-at.result ≤ c.args.to = omega (arith, simp length-take at c.each_line-at.ensures.within) in
    rw c.copy_within.ensures.after (moved c.args.buf.now c.each_line-at.result c.args.to first c.requires _ c.each_line-at.new.self c.write_out.new.self c.each_line-at.ensures.answered
    c.write_out.ensures _ (omega (arith, c.copy_within.ensures.len)))

pub returns-clause-answered : goal.returns-clause-answered
returns-clause-answered c =
    let first : c.each_line-at.result ≤ c.args.to = omega (arith, simp length-take at c.each_line-at.ensures.within) in
    dropped c.args.buf.now c.each_line-at.result c.args.to first c.requires _ c.each_line-at.new.self c.write_out.new.self c.each_line-at.ensures.answered
    c.write_out.ensures (omega (arith, c.copy_within.ensures.len))
