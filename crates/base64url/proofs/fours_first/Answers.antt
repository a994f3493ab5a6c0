-- `fours_first` meets its contract: the letters passed and those to come are the letters of the whole text.
use Rattle.std.proofs.Common.{arith, sym, ◌≡◌, ◌∙◌, ap, ◌+◌, ◌*◌}
use Rattle.base64url.specs.Scan.{four_letters}
use Rattle.base64url.proofs.Turns.{chunk_of_four}
use Rattle.base64url.proofs.Count.{count_four}
use Rattle.base64url.proofs.fours_first.Goals as goal

pub loop-k-preserved : goal.loop-k-preserved
loop-k-preserved c =
    let k = c.loop-k.k in
    let s = c.args.s.now in
    let cut = c.as_chunks.ensures in
    let e : (k + 1) * 4 ≡ k * 4 + 4 = omega arith in
    let four = ap four_letters (chunk_of_four s _ k cut.front (omega (arith, cut.front_len))) in
    rw e
    (count_four _ s (k * 4) _ c.loop-k.invariant (omega (arith, cut.front_len)) (omega (arith, cut.front_len))
    (sym (c.four_letters.ensures ∙ four) ∙ c.if-not-four_letters.false))
