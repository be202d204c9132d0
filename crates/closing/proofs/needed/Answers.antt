use Rattle.rows.specs.Rows.{rows_of}
use Rattle.closing.proofs.Sending.{needed-none, needed-some}
use Rattle.closing.proofs.needed.Goals as goal

pub returns-then-not-invert_into : goal.returns-then-not-invert_into
returns-then-not-invert_into c = needed-none _ _ _ _ (rows_of c.args.wanted.now) c.invert_into.ensures (c.if-not-invert_into.true)

pub returns : goal.returns
returns c = needed-some _ _ _ _ (rows_of c.args.wanted.now) c.invert_into.ensures (c.if-not-invert_into.false) c.products.ensures
