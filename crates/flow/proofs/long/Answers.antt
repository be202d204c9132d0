use Rattle.std.proofs.Common.{arith, get_or, [], ap, ◌∙◌}
use Rattle.flow.proofs.Words.{chunk_at, long_is}
use Rattle.flow.proofs.long.Goals as goal

pub returns : goal.returns
returns c = c.from_le_bytes.ensures ∙ long_is c.args.i _ c.args.bytes.now (ap (λ l. get_or l c.args.i []) c.as_chunks.ensures.front ∙ chunk_at 8 _ c.args.i c.args.bytes.now (omega arith))
