-- `sha256::operations::small_sigma1` meets its contract: the definition is the code, with what `rotated` ensures.
use Rattle.sha256.specs.Sha256.{σ1}
use Rattle.sha256.proofs.operations.small_sigma1.Goals as goal

pub returns : goal.returns
unfolding σ1
returns c = cc
