-- `text::worth` meets its contract: the digits so far are counted.
use Rattle.std.proofs.Common.{add-one, arith}
use Rattle.text.proofs.Decimals.{worth_more}
use Rattle.text.proofs.worth.Goals as goal

pub loop-b-preserved : goal.loop-b-preserved
loop-b-preserved c =
    let more = worth_more c.args.digits.now c.loop-b.b-index c.loop-b-test.true in
    rw (add-one c.loop-b.b-index) (omega (arith, more, c.grown-v.ensures, c.loop-b.invariant))
