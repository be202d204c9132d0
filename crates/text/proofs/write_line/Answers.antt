-- `text::write_line` meets its contract.
use mathlib.Core.List.{[], ◌∷◌}
use lib.ListN.{length}
use Rattle.text.proofs.Pasting.{room-first, room-second, writes-both}
use Rattle.text.specs.Bytes.{lf}
use Rattle.text.specs.Printing.{decimal, line_text}
use Rattle.text.proofs.write_line.Goals as goal

pub write_natural-next-requires : goal.write_natural-next-requires
unfolding line_text
write_natural-next-requires c =
    room-first (decimal c.args.n) (lf ∷ []) c.args.at (length c.args.out.now) c.requires

pub write_byte-requires : goal.write_byte-requires
unfolding line_text
write_byte-requires c =
    let w = c.write_natural-next in
    room-second (decimal c.args.n) (lf ∷ []) c.args.out.now c.args.at _ _ c.requires w.ensures

pub returns : goal.returns
unfolding line_text
returns c =
    let w = c.write_natural-next in
    writes-both (decimal c.args.n) (lf ∷ []) c.args.out.now c.args.at _ _ _ _ c.requires w.ensures c.write_byte.ensures
