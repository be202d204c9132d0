use mathlib.Core.Path.{ap, ◌∙◌}
use Prim.Native.Nat.{◌+◌, ◌/◌, ◌≤◌}
use native.Mathlib.Omega.{arith}
use lib.ListN.{length, set}
use Rattle.terms.specs.Terms.{terms_of}
use Rattle.terms.proofs.Room.{room-length}
use Rattle.walk.proofs.Chaining.{rows_same}
use Rattle.walk.proofs.Looping.{first-left}
use Rattle.plain_walk.proofs.Looping.{walk_first, walk-lighter, walk-next, walk_end, first-standing}
use Rattle.plain_walk.proofs.walk_terms.Goals as goal
use Rattle.plain_walk.proofs.walk_terms.Goals.{After-first}

-- the stack has room for a node more than there are wires
wide : (c : After-first) → length c.args.names.now + 1 ≤ length c.args.nodes.now
wide c = omega (arith, c.requires.deep, c.requires.many)

pub loop-s-init : goal.loop-s-init
loop-s-init c =
    walk_first _ _ (first-standing _ _ c.requires.many _ c.args.nodes.now _ (ap (set c.args.nodes.now 0) c.first.ensures) (wide (goal.at.loop-s-init c).After-first) c.all.ensures _ _ (omega (arith, room-length c.args.room.now)) _ _ _ c.requires.wires c.requires.rows c.requires.room)

pub loop-s-smaller : goal.loop-s-smaller
loop-s-smaller c = walk-lighter _ _ _ _ c.loop-s.invariant _ c.step-s.ensures

pub loop-s-preserved : goal.loop-s-preserved
loop-s-preserved c =
    let l = c.loop-s in
    let k = c.step-s.auto in
    let st = l.invariant.standing in
    walk-next _ _ _ _ l.invariant _ c.step-s.ensures (omega (arith, st.wide, k.nodes)) (rows_same _ l.held k.held ∙ st.many)

pub returns : goal.returns
returns c =
    let s = c.args in
    let e = first-left s.names.now s.n c.requires.many (set s.nodes.now 0 c.first.result) s.nodes.now c.all.result (ap (set s.nodes.now 0) c.first.ensures) (wide (goal.at.returns c).After-first) c.all.ensures (terms_of s.room.now) (length s.room.now / 3) (omega (arith, room-length s.room.now)) in
    rw e at (walk_end _ _ _ _ c.loop-s.invariant (omega arith))
