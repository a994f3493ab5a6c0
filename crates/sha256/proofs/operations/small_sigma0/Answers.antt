-- `sha256::operations::small_sigma0` meets its contract: the definition is the code, with what `rotated` ensures.
use Rattle.sha256.specs.Sha256.{σ0}
use Rattle.sha256.proofs.operations.small_sigma0.Goals as goal

pub returns : goal.returns
unfolding σ0
returns c = cc
