-- `pair::answer` meets its contract: too long, the first list not read, or the second one's answer.
use Rattle.std.proofs.Common.{sym, ap, arith, ◌∙◌}
use Rattle.saying.specs.Reasons.{place_of}
use Rattle.pair.proofs.Telling.{says-as, first-wrong}
use Rattle.pair.proofs.Fronts.{list_stands, line_small, wrong-small, answer-long, answer-read}
use Rattle.pair.proofs.answer.Goals as goal

pub returns-then-text-gt-LIST_BYTES : goal.returns-then-text-gt-LIST_BYTES
returns-then-text-gt-LIST_BYTES c = says-as _ _ _ _ _ (answer-long _ c.if-text-gt-LIST_BYTES.true) c.refuse.ensures

pub with_second-requires-clause-early : goal.with_second-requires-clause-early
with_second-requires-clause-early c = omega (arith, line_small 1 c.args.text.now _ (list_stands c.args.text.now 1 _ _ c.in-Ok.list c.in-Ok.ensures).is)

pub returns-in-Ok : goal.returns-in-Ok
returns-in-Ok c =
    let t = list_stands c.args.text.now 1 _ _ c.in-Ok.list c.in-Ok.ensures in
    says-as _ _ _ _ _ (answer-read _ _ c.if-text-gt-LIST_BYTES.false t.is) c.with_second.ensures

pub refuse-requires-in-Err-clause-fits : goal.refuse-requires-in-Err-clause-fits
refuse-requires-in-Err-clause-fits c = omega (arith, ap place_of c.from.ensures, wrong-small 1 c.args.text.now c.read_list.new.numbers c.in-Err.w c.in-Err.ensures.answer)

pub returns-in-Err : goal.returns-in-Err
returns-in-Err c =
    says-as _ _ _ _ _ (answer-read _ _ c.if-text-gt-LIST_BYTES.false (sym c.in-Err.ensures.answer) ∙ first-wrong c.read_list.new.numbers c.in-Err.w) (rw c.from.ensures at c.refuse-in-Err.ensures)
