-- Every number up to `i` is read from its place.
use Rattle.std.proofs.Common.{◌≡◌, pos, length}
use Rattle.rules.proofs.Filling.{Upto}
use Rattle.flow.specs.Flowing.{word_at, signed}
use Rattle.flow.proofs.load.Given as goal

abbrev pub invariant-loop-i : goal.invariant-loop-i
invariant-loop-i l = (length l.list ≡ length l.fn.list) × Upto (λ k. signed (word_at l.bytes k)) (pos 0) l.list l.i
