use Rattle.std.proofs.Common.{◌≡◌}
use Rattle.uuid_text.proofs.Spelled.{begun_text}
use Rattle.uuid_text.proofs.put_text.Given as goal

abbrev pub invariant-loop-k : goal.invariant-loop-k
invariant-loop-k l = l.text ≡ begun_text l.k l.id
