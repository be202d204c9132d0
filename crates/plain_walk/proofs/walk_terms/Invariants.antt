-- What was made and what the stack has left are the whole walk. The measure is the visits left.
use lib.ListN.{length}
use Rattle.rules.specs.Left.{weight, left}
use Rattle.plain_walk.specs.Place.{stack, place_of}
use Rattle.plain_walk.proofs.Looping.{Walked}
use Rattle.plain_walk.proofs.walk_terms.Given as goal

abbrev pub invariant-loop-s : goal.invariant-loop-s
invariant-loop-s l =
    let first = place_of l.initial.nodes l.initial.room l.initial.held l.initial.whole l.initial.s in
    Walked l.names (left (length l.names) (stack first)) first (place_of l.nodes l.room l.held l.whole l.s)

abbrev pub decreases-loop-s : goal.decreases-loop-s
decreases-loop-s l = weight (length l.names) (stack (place_of l.nodes l.room l.held l.whole l.s))
