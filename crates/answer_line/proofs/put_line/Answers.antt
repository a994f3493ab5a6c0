-- `put_line`: the parts one behind the other.
use Rattle.std.proofs.Common.{◌≡◌, ◌+◌, ◌/◌, ◌≤◌, min}
use native.Mathlib.Omega.{arith}
use lib.ListN.{length}
use Rattle.answer_line.proofs.Texts.{put_more, byte_put, line_put}
use borrow.Author.Rules.{rules}
use Rattle.answer_line.proofs.put_line.Goals as goal

pub returns : goal.returns
returns c =
    let old = c.args.out.now in
    let digits = put_more (put_more (rw c.from.ensures at c.put_number-a.ensures) (rw c.from-2.ensures at c.put_next-b.ensures)) c.put_next-c.ensures in
    let all = put_more (put_more digits c.put_list-d.ensures) (byte_put _ _ 10) in
    let room : c.put_list-d.result + 1 ≤ length old = omega arith in
    let shown : c.min-shown.result ≡ min c.args.listed (length c.args.list.now / 4) = search rules in
    let told = line_put _ _ _ _ _ _ _ _ shown room all in
    (told.0, search rules, told.1)
