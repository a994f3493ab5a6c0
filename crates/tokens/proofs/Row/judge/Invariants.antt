use Rattle.std.proofs.Common.{◌≡◌, drop}
use Rattle.tokens.specs.Row.{judge_row}
use Rattle.tokens.proofs.Row.judge.Given as goal

abbrev pub invariant-loop-i : goal.invariant-loop-i
invariant-loop-i l = judge_row l.self l.i (drop l.i l.s) ≡ judge_row l.self 0 l.s
