-- What was emitted and what the stack has left are the whole walk. The measure is the turns left.
use mathlib.Core.Bool.{true}
use lib.ListN.{length}
use Rattle.rules.specs.Left.{weight, left}
use Rattle.budget.specs.View.{view}
use Rattle.terms.specs.Terms.{terms_of}
use Rattle.walk.specs.Later.{Waits}
use Rattle.walk.specs.Place.{stack, place_of}
use Rattle.walk.proofs.Looping.{Walked}
use Rattle.walk.proofs.gray_synth.Given as goal

abbrev pub invariant-loop-s : goal.invariant-loop-s
invariant-loop-s l =
    let first = place_of l.initial.nodes l.initial.room l.initial.held l.initial.out l.initial.s (view l.initial.budget) in
    record {
      walked : Walked l.names (left (length l.names) (stack first)) first (place_of l.nodes l.room l.held l.out l.s (view l.budget)) true;
      waits : Waits l.s.pending (length (terms_of l.room));
    }

abbrev pub decreases-loop-s : goal.decreases-loop-s
decreases-loop-s l = weight (length l.names) (stack (place_of l.nodes l.room l.held l.out l.s (view l.budget)))
