-- `Block::fold` meets its contract.
use Rattle.std.proofs.Common.{refl, arith}
use Rattle.block.proofs.Folding.{folds-one}
use Rattle.block.proofs.Block.fold.Goals as goal

pub returns : goal.returns
returns c = folds-one _ _ _ _ _ _ _ (omega arith) c.add_term-self.ensures refl refl refl refl
