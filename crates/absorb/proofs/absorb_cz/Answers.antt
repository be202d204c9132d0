-- `absorb::absorb_cz` meets its contract.
use Rattle.absorb.proofs.Absorbing.{cz-absorbs}
use Rattle.absorb.proofs.absorb_cz.Goals as goal

pub returns : goal.returns
returns c =
    let e = c.enter_two.ensures in
    cz-absorbs _ _ _ _ _ _ _ _ e.terms e.more e.behind _ _ _ _ e.joined e.control e.target e.control-name e.target_name c.fold_cz.ensures
