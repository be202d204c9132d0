-- `pair::compare` meets its contract: refused as the library refuses, or its answer.
use Rattle.pair.proofs.Telling.{refused-place}
use Rattle.pair.proofs.compare.Goals as goal

pub refuse-requires-clause-fits : goal.refuse-requires-clause-fits
refuse-requires-clause-fits c = refused-place _ _ _ _ c.in-Err.ensures.answered
