use mathlib.Core.Path.{sym, subst}
use mathlib.Core.List.{List}
use Prim.Native.Nat.{◌*◌, ◌≤◌}
use native.Mathlib.Omega.{arith}
use lib.ListN.{length}
use lib.Seq.{length-take-le}
use Rattle.rules.specs.Walk.{Step}
use Rattle.terms.proofs.Room.{room-length}
use Rattle.rows.specs.Rows.{rows_of}
use Rattle.walk.proofs.Entering.{entering-few, entering-walk}
use Rattle.plain_walk.specs.Place.{Walks, Lent}
use Rattle.plain_walk.proofs.phase_walk.Goals as goal

pub overflow_mul-end : goal.overflow_mul-end
overflow_mul-end c =
    let few : 3 * c.compact-entering.result ≤ length c.compact-entering.new.room = let r = c.compact-entering in
    omega (arith, entering-few c.args.count r.result c.args.room.now r.new.room r.ensures, room-length r.new.room) in
    omega (arith, few, c.compact-entering.auto.room)

pub slice_bounds-walk_terms-end : goal.slice_bounds-walk_terms-end
slice_bounds-walk_terms-end c =
    let few : 3 * c.compact-entering.result ≤ length c.compact-entering.new.room = let r = c.compact-entering in
    omega (arith, entering-few c.args.count r.result c.args.room.now r.new.room r.ensures, room-length r.new.room) in
    few

pub slice_bounds-walk_terms-end-2 : goal.slice_bounds-walk_terms-end-2
slice_bounds-walk_terms-end-2 c =
    let few : 3 * c.compact-entering.result ≤ length c.compact-entering.new.room = let r = c.compact-entering in
    omega (arith, entering-few c.args.count r.result c.args.room.now r.new.room r.ensures, room-length r.new.room) in
    sym (length-take-le (3 * c.compact-entering.result) c.compact-entering.new.room (few))

pub walk_terms-requires : goal.walk_terms-requires
walk_terms-requires c =
    let k = c.compact-entering in
    subst (λ (ss : List Step). Lent c.args.n c.args.names.now c.args.nodes.now c.args.held.now ss c.args.whole.now c.args.k)
    (sym (entering-walk c.args.count k.result c.args.room.now k.new.room k.ensures c.args.n)) c.requires.lent

pub returns : goal.returns
returns c =
    let k = c.compact-entering in
    let g = c.walk_terms in
    subst (λ (ss : List Step). Walks c.args.names.now ss c.args.whole.now c.args.k (rows_of c.args.held.now) g.new.whole g.result (rows_of g.new.held))
    (entering-walk c.args.count k.result c.args.room.now k.new.room k.ensures c.args.n) g.ensures
