-- `sha256::rounds::all_rounds` meets its contract: of the schedule sixteen words more are there than rounds are done, as far as it goes.
use Rattle.std.proofs.Common.{◌≡◌, ◌+◌, ◌*◌, arith}
use Rattle.sha256.specs.Sha256.{schedule}
use Rattle.sha256.specs.Parts.{There}
use Rattle.sha256.proofs.Turns.{rounds_next, rounds_known}
use Rattle.sha256.proofs.rounds.all_rounds.Goals as goal

pub loop-turn-preserved : goal.loop-turn-preserved
loop-turn-preserved c =
    let m = c.args.block.now in
    let w = c.extend.new.w in
    let t = 8 * c.loop-turn.turn in
    let there : There (t + 16 + 8) m w = c.extend.ensures m c.loop-turn.invariant.0 in
    let e : 8 * (c.loop-turn.turn + 1) ≡ t + 8 = omega arith in
    let f : t + 8 + 16 ≡ t + 16 + 8 = omega arith in
    rw (e, f) (
      there,
      rounds_next (schedule 64 m) c.args.s c.loop-turn.v _ t 8 c.loop-turn.invariant.1
          (rounds_known m w c.loop-turn.v _ t 8 (t + 16 + 8) there (omega arith) (omega arith) c.eight_rounds-next.ensures),
    )
