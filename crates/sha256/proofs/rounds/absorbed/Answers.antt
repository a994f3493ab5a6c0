-- `sha256::rounds::absorbed` meets its contract: the blocks are taken in one after the other.
use Rattle.std.proofs.Common.{◌≡◌, ◌/◌, length, ◌∙◌, rules}
use Rattle.std.specs.Simd.{first_chunks}
use Rattle.std.proofs.lemmas.Iterator.{YieldsList-from_slice}
use Rattle.std.proofs.lemmas.Iterator.Consumers.{fold_from_yields_List}
use Rattle.sha256.specs.Sha256.{compress}
use Rattle.sha256.proofs.Turns.{absorb_by_fold}
use Rattle.sha256.proofs.rounds.absorbed.Goals as goal

pub returns : goal.returns
returns c =
    let m = c.args.message.now in
    let front : c.as_chunks.result.0.now ≡ first_chunks 64 (length m / 64) m = c.as_chunks.ensures.front in
    fold_from_yields_List _ compress c.args.s _ c.fold.ensures.ran (YieldsList-from_slice c.as_chunks.result.0.now cc) (λ a x b q k. search rules)
    ∙ rw front (absorb_by_fold (length m / 64) c.args.s m)
