-- `place_of`: the closure compares with a name only accounts in use, whose names lie within their places.
use Rattle.std.proofs.Common.{◌≡◌, length, rules, arith}
use Rattle.std.proofs.lemmas.Iterator.{YieldsList-from_slice}
use Rattle.std.proofs.lemmas.Iterator.Adapters.{serves_from_places}
use Rattle.account.specs.Head.{accounts_of}
use Rattle.account.proofs.Places.{short_front}
use Rattle.account.proofs.place_of.Goals as goal

pub position-requires-clause-callable : goal.position-requires-clause-callable
position-requires-clause-callable c =
    let long : length c.args.h.accounts ≡ 32 = search rules in
    serves_from_places (YieldsList-from_slice (accounts_of c.args.h) (search rules)) (λ x q k. search rules)
    (λ x k i e. search (rules, short_front c.args.h c.args.h.count x.now k c.requires long (omega arith) i e))
