-- `absorb::absorb_cnot` meets its contract.
use Rattle.std.proofs.Common.{◌∙◌, arith}
use Rattle.rules.specs.Fold.{entered}
use Rattle.absorb.proofs.Absorbing.{cross-joined}
use Rattle.block.proofs.Parts.{behind-same}
use Rattle.absorb.proofs.absorb_cnot.Goals as goal

pub returns : goal.returns
unfolding entered
returns c =
    let e = c.enter_two.ensures in
    let f = c.fold_cnot.ensures in
    record {
      joined = cross-joined e.joined _ _ _ _ _ e.control e.target e.control-name e.target_name f;
      terms = f.flips.terms ∙ e.terms;
      more = omega (arith, e.more, f.flips.wires);
      behind = behind-same _ _ _ f.flips.wires f.flips.names f.rest e.behind;
    }
