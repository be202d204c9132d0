-- `terms::exchange` meets its contract, by what `get` and `put` ensure.
use Rattle.terms.proofs.exchange.Goals as goal

pub returns : goal.returns
returns c =
    let x = c.get-x.ensures in
    let y = c.get-y.ensures in
    let p = c.put.ensures.terms in
    let q = c.put-2.ensures.terms in
    cc
