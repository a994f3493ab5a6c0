use lib.ListN.{length}
use Rattle.base64url.specs.Scan.{letters_first, Passed}
use Rattle.base64url.proofs.letters_first.Given as goal

abbrev pub invariant-loop-i : goal.invariant-loop-i
invariant-loop-i l = Passed (length l.text) l.text (letters_first l.most l.s) l.i
