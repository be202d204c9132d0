-- Of the candidates below some column the best is kept, and the others are left. The measure is the columns left, as a number.
use Rattle.parity.specs.View.{val}
use Rattle.terms.specs.Terms.{terms_of}
use Rattle.plain_walk.specs.Scored.{pair_of}
use Rattle.plain_walk.proofs.Scoring.{Scanned}
use Rattle.plain_walk.proofs.best_column.Given as goal

abbrev pub invariant-loop-left : goal.invariant-loop-left
invariant-loop-left l = Scanned (val l.initial.left) (terms_of l.set) (val l.left) (pair_of l.kept)

abbrev pub decreases-loop-left : goal.decreases-loop-left
decreases-loop-left l = val l.left
