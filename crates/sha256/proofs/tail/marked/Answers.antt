-- `sha256::tail::marked` meets its contract: what follows the whole blocks is put at the front of zeros, and the mark behind it.
use Rattle.std.proofs.Common.{◌≡◌, ◌*◌, ◌/◌, ℕ, length, drop, length-drop, ap, ◌∙◌, arith}
use Rattle.octets.specs.Parts.{zeros}
use Rattle.sha256.specs.Parts.{rest}
use Rattle.sha256.proofs.Padding.{marked_rest}
use Rattle.sha256.proofs.tail.marked.Goals as goal

pub returns : goal.returns
unfolding zeros
returns c =
    let m = c.args.message.now in
    let e : length m / 64 * 64 ≡ 64 * (length m / 64) = omega arith in
    let left : c.as_chunks.result.1.now ≡ rest m = c.as_chunks.ensures.back ∙ ap (λ (k : ℕ). drop k m) e in
    let stored : c.copy_from_slice.new.self ≡ rest m = c.copy_from_slice.ensures.after ∙ left in
    rw (stored, left) (marked_rest (rest m) 128 (omega (arith, length-drop (64 * (length m / 64)) m)))
