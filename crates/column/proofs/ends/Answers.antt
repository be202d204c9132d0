use Rattle.column.proofs.Sifting.{ends-best}
use Rattle.column.proofs.ends.Goals as goal

pub returns : goal.returns
returns c =
    ends-best _ _ _ _ _ _ _ _ _ _ _ c.zero.ensures c.count_columns.ensures c.sift-most.ensures c.sift-least.ensures c.requires.cands_nonzero
    c.highest.ensures.high c.highest-2.ensures.high c.single.ensures c.single-2.ensures c.bitor.ensures
