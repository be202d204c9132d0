-- `absorb::absorb_turn` meets its contract.
use Rattle.absorb.proofs.Absorbing.{turn-absorbs}
use Rattle.absorb.proofs.absorb_turn.Goals as goal

pub returns : goal.returns
returns c =
    let e = c.enter-at.ensures in
    turn-absorbs _ _ _ _ _ _ _ _ e.terms e.more e.behind _ _ _ e.joined e.at e.name c.fold_turn.ensures
