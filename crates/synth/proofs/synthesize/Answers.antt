-- `synth::synthesize` meets its contract: the walk, the closing map and the flips, one after the other, or as far as the budget went.
use Rattle.std.proofs.Common.{◌≡◌, ◌∙◌, length, refl}
use Rattle.std.proofs.lemmas.Result.{err_from_is_err_and}
use Rattle.parity.specs.View.{val}
use Rattle.rows.specs.Rows.{rows_of}
use Rattle.rows.proofs.Room.{row_count}
use Rattle.block.specs.View.{names_of, held_of, terms_at}
use Rattle.block.proofs.Parts.{rows_cut}
use Rattle.synth.proofs.Sections.{stops-walk, stops-closing, synthesizes}
use Rattle.synth.proofs.synthesize.Goals as goal
use Rattle.synth.proofs.synthesize.Goals.{Start}

-- the rows are as many as the wires
many : (c : Start) → length (rows_of (held_of c.args.block.now)) ≡ c.args.block.now.wires
many c = row_count (held_of c.args.block.now) ∙ c.requires.rooms.wide

pub returns-in_err-walked : goal.returns-in_err-walked
returns-in_err-walked c =
    let s = c.args in
    let p = err_from_is_err_and c.from_residual.result c.from_residual.ensures.1 in
    rw (rows_cut s.block.now, p.1, p.2) (stops-walk (names_of s.block.now) (rows_of (held_of s.block.now)) (val s.block.now.flips) s.block.now.wires (terms_at s.block.now s.room.now) c.requires.rooms.walkable.named (many (goal.at.returns-in_err-walked c).Start) _ _ _ _ c.in_err-walked.ensures.emits)

pub returns-in_err-closed : goal.returns-in_err-closed
returns-in_err-closed c =
    let s = c.args in
    let w = c.in_ok-walked.ensures in
    let p = err_from_is_err_and c.from_residual-in_err-closed.result c.from_residual-in_err-closed.ensures.1 in
    rw (rows_cut s.block.now, p.1, p.2) (stops-closing (names_of s.block.now) (rows_of (held_of s.block.now)) (val s.block.now.flips) s.block.now.wires (terms_at s.block.now s.room.now) c.requires.rooms.walkable.named (many (goal.at.returns-in_err-closed c).Start) _ _ _ _ w.emits _ _
    (rw (w.rows refl) at c.in_err-closed.ensures))

pub returns : goal.returns
returns c =
    let s = c.args in
    let w = c.in_ok-walked.ensures in
    rw (rows_cut s.block.now) (synthesizes (names_of s.block.now) (rows_of (held_of s.block.now)) (val s.block.now.flips) s.block.now.wires (terms_at s.block.now s.room.now) c.requires.rooms.walkable.named (many (goal.at.returns c).Start) _ _ _ _ w.emits _ _
    (rw (w.rows refl) at c.in_ok-closed.ensures) _ _ _ c.emit_flips.ensures)
