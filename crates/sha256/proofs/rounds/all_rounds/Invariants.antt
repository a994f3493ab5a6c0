use Rattle.std.proofs.Common.{◌≡◌, ◌+◌, ◌*◌}
use Rattle.sha256.specs.Sha256.{rounds, schedule}
use Rattle.sha256.specs.Parts.{There}
use Rattle.sha256.proofs.rounds.all_rounds.Given as goal

abbrev pub invariant-loop-turn : goal.invariant-loop-turn
invariant-loop-turn l = There (8 * l.turn + 16) l.block l.w × (l.v ≡ rounds (8 * l.turn) 0 (schedule 64 l.block) l.initial.v)
