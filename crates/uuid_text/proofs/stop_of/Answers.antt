-- `stop_of` meets its contract: a walk in two parts is a walk over all places.
use Rattle.std.proofs.Common.{arith}
use Rattle.uuid_text.proofs.Walk.{joined, stopped}
use Rattle.uuid_text.proofs.stop_of.Goals as goal

pub returns : goal.returns
returns c =
    let s = c.args.s.now in
    stopped s 36 _ _ (joined s 0 20 36 _ _ _ c.first_wrong-2.ensures c.first_wrong-3.ensures c.min-2.ensures) (omega arith) (omega (arith, c.min-2.ensures, c.first_wrong-2.ensures.within))
