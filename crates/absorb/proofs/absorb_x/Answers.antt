-- `absorb::absorb_x` meets its contract.
use Rattle.std.proofs.Common.{◌∙◌, ap, drop, arith}
use Rattle.rules.specs.Fold.{entered}
use Rattle.absorb.proofs.Absorbing.{flip-joined}
use Rattle.block.proofs.Parts.{behind-same}
use Rattle.absorb.proofs.absorb_x.Goals as goal

pub returns : goal.returns
unfolding entered
returns c =
    let e = c.enter-at.ensures in
    let f = c.fold_x.ensures.flips in
    record { joined = flip-joined e.joined _ _ _ e.at e.name f c.fold_x.ensures.rows; terms = f.terms ∙ e.terms; more = omega arith; behind = behind-same _ _ _ f.wires f.names (ap (drop c.enter-at.new.self.wires) c.fold_x.ensures.rows) e.behind }
