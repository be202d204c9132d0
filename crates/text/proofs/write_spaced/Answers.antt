-- `text::write_spaced` meets its contract.
use mathlib.Core.List.{[], ◌∷◌}
use lib.ListN.{length}
use Rattle.text.proofs.Pasting.{room-first, room-second, writes-both}
use Rattle.text.specs.Bytes.{blank}
use Rattle.text.specs.Printing.{decimal, spaced_text}
use Rattle.text.proofs.write_spaced.Goals as goal

pub write_byte-next-requires : goal.write_byte-next-requires
unfolding spaced_text
write_byte-next-requires c =
    room-first (blank ∷ []) (decimal c.args.n) c.args.at (length c.args.out.now) c.requires

pub write_natural-requires : goal.write_natural-requires
unfolding spaced_text
write_natural-requires c =
    let w = c.write_byte-next in
    room-second (blank ∷ []) (decimal c.args.n) c.args.out.now c.args.at _ _ c.requires w.ensures

pub returns : goal.returns
unfolding spaced_text
returns c =
    let w = c.write_byte-next in
    writes-both (blank ∷ []) (decimal c.args.n) c.args.out.now c.args.at _ _ _ _ c.requires w.ensures c.write_natural.ensures
