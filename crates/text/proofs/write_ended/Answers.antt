-- `text::write_ended` meets its contract.
use mathlib.Core.List.{[], ◌∷◌}
use lib.ListN.{length}
use mir.Syntax.{w32}
use mir.ValLaws.{to_z-of_z}
use Rattle.text.proofs.Pasting.{room-first, room-second, writes-both}
use Rattle.text.specs.Printing.{printed, ended_text}
use Rattle.text.proofs.write_ended.Goals as goal

pub write_integer-next-requires : goal.write_integer-next-requires
unfolding ended_text
write_integer-next-requires c =
    let e = to_z-of_z w32 c.args.v c.ranges.v in
    rw e (room-first (printed c.args.v) (c.args.end ∷ []) c.args.at (length c.args.out.now) c.requires)

pub write_byte-requires : goal.write_byte-requires
unfolding ended_text
write_byte-requires c =
    let w = c.write_integer-next in
    let e = to_z-of_z w32 c.args.v c.ranges.v in
    room-second (printed c.args.v) (c.args.end ∷ []) c.args.out.now c.args.at _ _ c.requires (rw e at w.ensures)

pub returns : goal.returns
unfolding ended_text
returns c =
    let w = c.write_integer-next in
    let e = to_z-of_z w32 c.args.v c.ranges.v in
    writes-both (printed c.args.v) (c.args.end ∷ []) c.args.out.now c.args.at _ _ _ _ c.requires (rw e at w.ensures) c.write_byte.ensures
