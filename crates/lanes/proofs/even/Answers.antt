-- `lanes::even` meets its contract.
use Rattle.std.proofs.Common.{◌∙◌, rules, arith, not}
use borrow.Author.Tests.{tests}
use Rattle.std.proofs.lemmas.Iterator.{YieldsList-from_slice}
use Rattle.std.proofs.lemmas.Iterator.Search.{all_from_yields_List}
use Rattle.rules.specs.Bit.{bit}
use Rattle.parity.specs.View.{val}
use Rattle.acting.specs.Alike.{each}
use Rattle.lanes.proofs.Settling.{rows_even}
use Rattle.lanes.proofs.even.Goals as goal

pub returns : goal.returns
returns c =
    all_from_yields_List (λ p. each c.args.n (λ k. not (bit (val p) k))) _ _ _ c.all.ensures.ran (YieldsList-from_slice _ cc) (λ x b q k. search (rules, tests))
    ∙ rows_even _ _ c.args.odds.now (omega arith)
