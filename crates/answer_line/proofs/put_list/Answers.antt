-- `put_list`: one number of the list behind the other.
use Rattle.answer_line.proofs.Texts.{none_put, list_put}
use Rattle.answer_line.proofs.put_list.Goals as goal

pub loop-k-init : goal.loop-k-init
loop-k-init c = let s = c.args in none_put s.list.now s.out.now s.at

pub loop-k-preserved : goal.loop-k-preserved
loop-k-preserved c = list_put _ c.loop-k.k _ c.number_at.ensures c.loop-k.invariant c.put_next-end.ensures
