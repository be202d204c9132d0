use Rattle.dilkovan.proofs.Answers.{placed}
use Rattle.dilkovan.proofs.dilkovan_cnot_min.Goals as goal

pub hand_counts-requires : goal.hand_counts-requires
hand_counts-requires c = placed _ _ _ _ _ _ _ _ _ _ _ _ c.cnot_min_with-a.ensures

pub returns : goal.returns
returns c = record { answer = c.cnot_min_with-a.result; minimizes = c.cnot_min_with-a.ensures; number = c.hand_counts.ensures.code; counts-are = c.hand_counts.ensures.kept }
