use Rattle.std.proofs.Common.{◌≡◌, ℕ, ◌<◌, length, get_or}
use Rattle.sha256.specs.Sha256.{◌⊞◌}
use Rattle.sha256.proofs.rounds.added.Given as goal

abbrev pub invariant-loop-i : goal.invariant-loop-i
invariant-loop-i l =
    (length l.sum ≡ 8) × ((k : ℕ) → k < l.i → get_or l.sum k 0 ≡ get_or l.v k 0 ⊞ get_or l.s k 0)
