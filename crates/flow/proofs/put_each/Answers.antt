use Rattle.std.proofs.Common.{rules}
use Rattle.std.proofs.KnownBytes.{Appends-trans}
use Rattle.flow.proofs.Spelling.{spelled_next}
use Rattle.flow.proofs.put_each.Goals as goal

pub loop-number-preserved : goal.loop-number-preserved
loop-number-preserved g c = (
  search rules,
  rw (spelled_next g.T.Spelled.bits c.number-item.result c.args.numbers.now c.loop-number.number-index c.loop-number-test.true, ← c.number-item.is, ← c.bits.ensures) (Appends-trans _ _ _ _ _ c.loop-number.invariant.1 c.in_ok-used.ensures.went),
)
