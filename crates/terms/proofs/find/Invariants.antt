-- `terms::find` meets its contract: the next to look at has the hash, and none behind it is the parity. The measure is the link.
use Rattle.std.proofs.Common.{length}
use Rattle.parity.specs.View.{val}
use Rattle.terms.specs.Terms.{slot_of, link_of, parity_at}
use Rattle.terms.proofs.Chains.{Down}
use Rattle.terms.proofs.find.Given as goal

abbrev pub invariant-loop-next : goal.invariant-loop-next
invariant-loop-next l = Down (slot_of (length l.heads)) (parity_at l.room) l.count (val l.p) (link_of l.next)

abbrev pub decreases-loop-next : goal.decreases-loop-next
decreases-loop-next l = link_of l.next
