use Rattle.dilkovan.specs.Pairs.{Blamed}
use Rattle.dilkovan.proofs.blamed.Goals as goal

pub code-requires : goal.code-requires
unfolding Blamed
code-requires c = rw c.in-Err.is at c.requires
