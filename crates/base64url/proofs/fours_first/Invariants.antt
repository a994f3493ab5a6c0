use Prim.Native.Nat.{◌*◌}
use lib.ListN.{length}
use Rattle.base64url.specs.Scan.{letters_first, Passed}
use Rattle.base64url.proofs.fours_first.Given as goal

abbrev pub invariant-loop-k : goal.invariant-loop-k
invariant-loop-k l = Passed (length l.s) l.s (letters_first (length l.s) l.s) (l.k * 4)
