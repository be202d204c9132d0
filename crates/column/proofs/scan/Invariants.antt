-- is `Scanned`: of the candidates below some column the one furthest from even is kept, and the
-- others are left.
use Rattle.parity.specs.View.{val}
use Rattle.terms.specs.Terms.{terms_of}
use Rattle.column.specs.Distance.{pair_of}
use Rattle.column.proofs.Scanning.{Scanned}
use Rattle.column.proofs.scan.Given as goal

abbrev pub invariant-loop-left : goal.invariant-loop-left
invariant-loop-left l = Scanned (val l.initial.left) (terms_of l.set) (val l.left) (pair_of l.kept)

abbrev pub decreases-loop-left : goal.decreases-loop-left
decreases-loop-left l = val l.left
