-- `Block::enter_two` meets its contract.
use Rattle.std.proofs.Common.{◌∙◌}
use native.Mathlib.Nat.{le_trans, lt_of_lt_of_le}
use Rattle.block.proofs.Entering.{join-grows}
use Rattle.block.proofs.Parts.{behind-on}
use Rattle.block.proofs.Block.enter_two.Goals as goal

pub enter-control-requires : goal.enter-control-requires
enter-control-requires c =
    record { rowed = c.requires.rowed; inside = c.requires.control; few = le_trans (join-grows _ _) c.requires.few }

pub returns : goal.returns
returns c =
    let x = c.enter-control.ensures in
    let y = c.enter-target.ensures in
    record {
      joined = rw x.joined.same at y.joined;
      terms = y.terms ∙ x.terms;
      more = le_trans x.more y.more;
      control = lt_of_lt_of_le x.at y.more;
      target = y.at;
      control-name = y.kept _ x.at ∙ x.name;
      target_name = y.name;
      behind = behind-on _ _ _ y.more x.behind y.behind;
    }
