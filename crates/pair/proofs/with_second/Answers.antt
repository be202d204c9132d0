-- `pair::with_second` meets its contract: line numbers are small.
use Rattle.std.proofs.Common.{ap, arith}
use Rattle.saying.specs.Reasons.{place_of}
use Rattle.pair.proofs.Fronts.{list_stands, line_small, wrong-small}
use Rattle.pair.proofs.with_second.Goals as goal

pub refuse-requires-clause-fits : goal.refuse-requires-clause-fits
refuse-requires-clause-fits c = omega (arith, c.requires.early, ap place_of c.from.ensures, wrong-small c.args.line c.args.text.now c.read_list.new.numbers c.in-Err.w c.in-Err.ensures.answer)

pub refuse-requires-then-not-is_empty-clause-fits : goal.refuse-requires-then-not-is_empty-clause-fits
refuse-requires-then-not-is_empty-clause-fits c =
    omega (arith, c.requires.early, line_small c.args.line c.args.text.now _ (list_stands c.args.text.now c.args.line _ _ c.in-Ok.list c.in-Ok.ensures).is)
