use Rattle.std.proofs.Common.{◌≡◌, ◌*◌, length, take}
use Rattle.sha256.specs.Sha256.{joined}
use Rattle.sha256.proofs.digest.bytes_of.Given as goal

abbrev pub invariant-loop-i : goal.invariant-loop-i
invariant-loop-i l = (length l.out ≡ 32) × (take (4 * l.i) l.out ≡ joined l.i l.s)
