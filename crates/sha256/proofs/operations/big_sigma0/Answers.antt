-- `sha256::operations::big_sigma0` meets its contract: the definition is the code, with what `rotated` ensures.
use Rattle.sha256.specs.Sha256.{Σ0}
use Rattle.sha256.proofs.operations.big_sigma0.Goals as goal

pub returns : goal.returns
unfolding Σ0
returns c = cc
