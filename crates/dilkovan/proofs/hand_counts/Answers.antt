use Rattle.dilkovan.specs.Doors.{Placed}
use Rattle.dilkovan.proofs.hand_counts.Goals as goal

pub code-requires : goal.code-requires
unfolding Placed
code-requires c = rw c.in-Err.is at c.requires
