-- `terms::slot` meets its contract: no product wraps, and the parity's words are those of its number.
use borrow.Author.Rules.{rules}
use Rattle.rules.specs.Bit.{xor}
use Rattle.terms.proofs.Indexing.{slot-words}
use Rattle.terms.proofs.slot.Goals as goal

pub returns : goal.returns
unfolding xor
returns c =
    let s = c.args in
    slot-words s.n s.p.lo s.p.hi (search rules)
