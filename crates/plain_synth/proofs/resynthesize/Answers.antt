-- `plain_synth::resynthesize` meets its contract: walk, closing map and flips, each behind the one before; or there is no closing map.
use Rattle.std.proofs.Common.{◌≡◌, ◌∙◌, length, arith}
use Rattle.parity.specs.View.{val}
use Rattle.rows.specs.Rows.{rows_of}
use Rattle.rows.proofs.Room.{row_count}
use Rattle.block.specs.View.{names_of, held_of, terms_at}
use Rattle.block.proofs.Parts.{rows_cut}
use Rattle.synth.proofs.Sections.{unmade}
use Rattle.plain_synth.proofs.Parts.{made-parts, follows-few}
use Rattle.plain_synth.proofs.resynthesize.Goals as goal
use Rattle.plain_synth.proofs.resynthesize.Goals.{Start}

-- the rows are as many as the wires
many : (c : Start) → length (rows_of (held_of c.args.block.now)) ≡ c.args.block.now.wires
many c = row_count (held_of c.args.block.now) ∙ c.requires.rooms.wide

pub returns-in_err-closed : goal.returns-in_err-closed
returns-in_err-closed c =
    let s = c.args in
    rw (c.from_residual.ensures, rows_cut s.block.now) (unmade (names_of s.block.now) (rows_of (held_of s.block.now)) (val s.block.now.flips) s.block.now.wires (terms_at s.block.now s.room.now) c.requires.rooms.walkable.named (many (goal.at.returns-in_err-closed c).Start)
    (rw c.write_walk-walked.ensures.rows at c.in_err-closed.ensures))

pub write_flips-requires-clause-fits : goal.write_flips-requires-clause-fits
write_flips-requires-clause-fits c =
    let w = c.write_walk-walked in
    let f = c.in_ok-closed.ensures in
    let n = many (goal.at.write_flips-requires-clause-fits c).Start in
    let e = rw n at (follows-few _ _ _ _ _ _ _ (omega (arith, row_count w.new.held, c.requires.rooms.walkable.held, row_count (held_of c.args.block.now), c.requires.rooms.wide)) f) in
    omega (arith, e, c.requires.long, w.ensures.wrote.count, w.ensures.wrote.size, f.wrote.size)

pub returns : goal.returns
returns c =
    let s = c.args in
    rw (rows_cut s.block.now) (made-parts (names_of s.block.now) (rows_of (held_of s.block.now)) (val s.block.now.flips) s.block.now.wires (terms_at s.block.now s.room.now) c.requires.rooms.walkable.named (many (goal.at.returns c).Start) _ _ _ _ _ _ _
    c.write_walk-walked.ensures.wrote (rw c.write_walk-walked.ensures.rows at c.in_ok-closed.ensures) c.write_flips.ensures)
