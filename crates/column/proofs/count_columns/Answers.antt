use mathlib.Core.Path.{◌≡◌, sym, ◌∙◌}
use Prim.Native.Nat.{◌+◌}
use native.Mathlib.Omega.{arith}
use lib.ListN.{length}
use Rattle.terms.specs.Terms.{terms_of}
use Rattle.terms.proofs.Room.{room-length}
use Rattle.rows.specs.Rows.{rows_of}
use Rattle.rows.proofs.Room.{row_count}
use Rattle.column.proofs.Scanning.{with_none, with-end}
use Rattle.column.proofs.Adding.{some-plane, count_next}
use Rattle.column.proofs.count_columns.Goals as goal
use Rattle.column.proofs.count_columns.Goals.{In-loop-i}

-- the planes are as many as at the start
planes : (c : In-loop-i) → length (rows_of c.loop-i.planes) ≡ length (rows_of c.args.planes.now)
planes c = omega (arith, row_count c.loop-i.planes, row_count c.args.planes.now)

pub loop-i-init : goal.loop-i-init
loop-i-init c = λ j. c.requires.by_index j ∙ sym (with_none j (terms_of c.args.set.now))

pub add-requires : goal.add-requires
add-requires c =
    let r = room-length c.args.set.now in
    rw (planes (goal.at.add-requires c).In-loop-i) (some-plane _ _ (omega arith) c.requires.set_len_bound)

pub loop-i-preserved : goal.loop-i-preserved
loop-i-preserved c =
    let l = c.loop-i in
    let ts = terms_of c.args.set.now in
    λ j. count_next j ts l.i _ _ _ _ _ _ c.parity_at-x.ensures c.parity_at-y.ensures (rw (planes (goal.at.loop-i-preserved c).In-loop-i) c.requires.set_len_bound) (l.invariant j) (c.add.ensures j)

pub returns : goal.returns
returns c = λ j. c.loop-i.invariant j ∙ with-end j (terms_of c.args.set.now) c.loop-i.i (omega (arith, room-length c.args.set.now))

pub returns-2 : goal.returns-2
returns-2 c =
    let l = c.loop-i in
    let ts = terms_of c.args.set.now in
    λ j. count_next j ts l.i _ _ _ _ _ _ c.parity_at-x.ensures c.parity_at-y.ensures (rw (planes (goal.at.returns-2 c).In-loop-i) c.requires.set_len_bound) (l.invariant j) (c.add.ensures j)
    ∙ with-end j ts (l.i + 2) (omega (arith, room-length c.args.set.now))
