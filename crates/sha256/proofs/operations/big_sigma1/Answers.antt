-- `sha256::operations::big_sigma1` meets its contract: the definition is the code, with what `rotated` ensures.
use Rattle.sha256.specs.Sha256.{Σ1}
use Rattle.sha256.proofs.operations.big_sigma1.Goals as goal

pub returns : goal.returns
unfolding Σ1
returns c = cc
