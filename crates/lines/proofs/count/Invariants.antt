-- `count`: a word for each piece so far, none of them empty.
use Rattle.std.proofs.Common.{◌≡◌, ◌≤◌, false, eqb, length, take}
use Rattle.std.specs.List.{list_any}
use Rattle.lines.specs.Lines.{pieces}
use Rattle.lines.proofs.count.Given as goal

abbrev pub invariant-loop-piece : goal.invariant-loop-piece
invariant-loop-piece l =
    (l.words ≡ length l.yielded) × (l.words ≤ 9) × (list_any (λ p. eqb (length p) 0) (take l.words (pieces l.line)) ≡ false)
