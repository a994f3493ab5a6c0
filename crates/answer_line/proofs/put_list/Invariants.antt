-- `put_list`: the first k numbers are put.
use Rattle.std.proofs.Common.{◌*◌}
use Rattle.answer_line.specs.Text.{list_text}
use Rattle.answer_line.specs.Inner.{Put}
use Rattle.answer_line.proofs.put_list.Given as goal

abbrev pub invariant-loop-k : goal.invariant-loop-k
invariant-loop-k l = Put (11 * l.k) (list_text l.list l.k) l.at l.initial.out l.out l.end
