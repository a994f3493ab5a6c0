use Rattle.std.proofs.Common.{◌≡◌, ℕ, List, take}
use Rattle.sha256.specs.Sha256.{schedule}
use Rattle.sha256.proofs.schedule.extend.Given as goal

abbrev pub invariant-loop-i : goal.invariant-loop-i
invariant-loop-i l = (m : List ℕ) → take l.t l.initial.w ≡ schedule l.t m → take l.i l.w ≡ schedule l.i m
