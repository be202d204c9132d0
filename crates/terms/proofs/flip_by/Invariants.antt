-- `terms::flip_by` meets its contract: the first k terms are passed.
use Rattle.std.proofs.Common.{◌≡◌, length}
use Rattle.parity.specs.View.{val}
use Rattle.terms.specs.Terms.{terms_of}
use Rattle.terms.proofs.Crossing.{passed}
use Rattle.terms.proofs.flip_by.Given as goal

abbrev pub invariant-loop-k : goal.invariant-loop-k
invariant-loop-k l = record {
  size : length l.room ≡ length l.initial.room;
  passed : terms_of l.room ≡ passed (val l.fn.mask) l.t l.k (terms_of l.initial.room);
}
