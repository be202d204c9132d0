-- `terms::gather` meets its contract: whatever test says what the code's says, the terms are sieved by it up to k.
use Rattle.std.proofs.Common.{◌≡◌, Bool, ◌≤◌, length}
use Rattle.rules.specs.Fold.{Term}
use Rattle.terms.specs.Terms.{terms_of, Tells}
use Rattle.terms.proofs.Sieve.{Sieved}
use Rattle.terms.proofs.gather.Given as goal

abbrev pub invariant-loop-k : goal.invariant-loop-k
invariant-loop-k g l = record {
  behind : l.mid ≤ l.k;
  size : length l.room ≡ length l.initial.room;
  sieved : (keeps : Term → Bool) → Tells (goal.F-post g l.keep) keeps → Sieved keeps (terms_of l.initial.room) (terms_of l.room) l.mid l.k;
}
