-- `put_number`: the number is an amount of whole units, and its text has room.
use Rattle.std.proofs.Common.{◌≡◌, ◌^◌, ◌<◌, length, rules, arith}
use Rattle.answer_line.specs.Text.{decimal_text}
use Rattle.answer_line.proofs.Texts.{ten_digits, written, number_put}
use Rattle.answer_line.proofs.put_number.Goals as goal

pub unreachable-requires : goal.unreachable-requires
unreachable-requires c =
    let small : c.args.n < 2 ^ 32 = search rules in
    let w = written c.args.out.now c.args.at c.args.n _ c.from.ensures c.requires small _ c.write_amount.ensures.0 in
    cc

pub overflow_add-result : goal.overflow_add-result
overflow_add-result c =
    let small : c.args.n < 2 ^ 32 = search rules in
    let w = written c.args.out.now c.args.at c.args.n _ c.from.ensures c.requires small _ c.write_amount.ensures.0 in
    let l : c.in-Ok.length ≡ length (decimal_text c.args.n) = cc in
    omega (arith, ten_digits c.args.n small)

pub returns : goal.returns
returns c =
    let small : c.args.n < 2 ^ 32 = search rules in
    let w = c.write_amount.ensures in
    number_put c.args.out.now c.args.at c.args.n _ c.from.ensures c.requires small _ _ _ w.0 w.1 c.in-Ok.is
