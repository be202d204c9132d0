-- `terms::compact` meets its contract.
use Rattle.std.proofs.Common.{rules}
use native.Mathlib.Nat.{mod-mod}
use Rattle.terms.proofs.Sieve.{turns, nonzero-filter}
use Rattle.terms.proofs.compact.Goals as goal

pub returns : goal.returns
returns c = rw nonzero-filter (c.gather.ensures turns (λ e r says. rw (mod-mod e.turn 8) (search rules))).begins
