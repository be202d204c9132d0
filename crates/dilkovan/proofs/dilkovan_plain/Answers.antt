use Rattle.dilkovan.proofs.Placing.{placed}
use Rattle.dilkovan.proofs.dilkovan_plain.Goals as goal

pub hand_counts-requires : goal.hand_counts-requires
hand_counts-requires c = placed _ _ _ _ _ _ _ _ _ _ _ _ _ _ c.cnot_min_plain-a.ensures

pub returns : goal.returns
returns c = record { answer = c.cnot_min_plain-a.result; plainly = c.cnot_min_plain-a.ensures; number = c.hand_counts.ensures.code; counts-are = c.hand_counts.ensures.kept }
