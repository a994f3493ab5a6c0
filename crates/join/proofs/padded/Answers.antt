-- `padded`: the name, and the zeros after it.
use Rattle.std.proofs.Common.{List, ℕ, length, ◌++◌, ap}
use Rattle.octets.specs.Parts.{zeros}
use Rattle.octets.proofs.Zeros.{drop-zeros}
use Rattle.join.proofs.padded.Goals as goal

pub returns : goal.returns
unfolding zeros
returns c =
    let name = c.args.name.now in
    rw c.copy_from_slice.ensures.after (ap (λ (l : List ℕ). name ++ l) (drop-zeros (length name) 32))
