-- `timing::timing_invert` meets its contract: the rows fit the arrays.
use Rattle.std.proofs.Common.{sym, arith}
use lib.Seq.{length-take-le}
use Rattle.timing.proofs.Words.{words_count}
use Rattle.timing.proofs.timing_invert.Goals as goal

pub slice_bounds-inverted-end : goal.slice_bounds-inverted-end
slice_bounds-inverted-end c = sym (length-take-le _ _ (omega (arith, words_count c.args.a.now)))

pub slice_bounds-inverted-end-2 : goal.slice_bounds-inverted-end-2
slice_bounds-inverted-end-2 c = sym (length-take-le _ _ (omega (arith, words_count c.args.a.now)))

pub inverted-requires-clause-many : goal.inverted-requires-clause-many
inverted-requires-clause-many c = (length-take-le _ _ (omega (arith, words_count c.args.a.now)), length-take-le _ _ (omega (arith, words_count c.args.a.now)))
