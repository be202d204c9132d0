-- `synth::emit_walk` meets its contract: the terms other than 0 stand first, and the walk is over them alone.
use Rattle.std.proofs.Common.{◌≡◌, ◌*◌, ◌≤◌, length, sym, ap, ap₂, ◌∙◌, arith}
use lib.Seq.{length-take-le}
use Prim.Native.Nat.{ℕ}
use Rattle.rules.specs.Walk.{held}
use Rattle.rules.specs.Close.{units}
use Rattle.terms.proofs.Room.{room-length}
use Rattle.rows.specs.Rows.{rows_of}
use Rattle.rows.proofs.Room.{row_count}
use Rattle.block.specs.View.{terms_at}
use Rattle.walk.proofs.Entering.{entering-few, entering-walk}
use Rattle.synth.proofs.emit_walk.Goals as goal
use Rattle.synth.proofs.emit_walk.Goals.{After-compact-entering}

-- the entering terms stand in the room
few : (c : After-compact-entering) → 3 * c.compact-entering.result ≤ length c.compact-entering.new.room
few c = let r = c.compact-entering in omega (arith, entering-few c.args.block.now.terms r.result c.args.room.now r.new.room r.ensures, room-length r.new.room)

pub overflow_mul-end : goal.overflow_mul-end
overflow_mul-end c = omega (arith, few (goal.at.overflow_mul-end c).After-compact-entering)

pub slice_bounds-gray_synth-end : goal.slice_bounds-gray_synth-end
slice_bounds-gray_synth-end c = few (goal.at.slice_bounds-gray_synth-end c).After-compact-entering

pub slice_bounds-gray_synth-end-2 : goal.slice_bounds-gray_synth-end-2
slice_bounds-gray_synth-end-2 c = sym (length-take-le (3 * c.compact-entering.result) c.compact-entering.new.room (few (goal.at.slice_bounds-gray_synth-end-2 c).After-compact-entering))

pub returns : goal.returns
unfolding terms_at
returns c =
    let s = c.args in
    let g = c.gray_synth in
    let k = c.compact-entering in
    let n : length (rows_of s.held.now) ≡ s.block.now.wires = omega (arith, row_count s.held.now, c.requires.walkable.held) in
    let e = entering-walk s.block.now.terms k.result s.room.now k.new.room k.ensures s.block.now.wires in
    let f : rows_of c.set_units.new.m ≡ units s.block.now.wires 0 = c.set_units.ensures ∙ ap (λ (m : ℕ). units m 0) n in
    record { emits = rw (← e) g.ensures.emits; rows = λ w. g.ensures.rows w ∙ ap₂ held e f }
