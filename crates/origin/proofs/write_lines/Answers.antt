-- `origin::write_lines` meets its contract: the word, the first line, `to` and the last.
use native.Mathlib.Omega.{arith}
use Rattle.origin.proofs.Noting.{from-room, to_room, lines_noted}
use Rattle.origin.proofs.write_lines.Goals as goal

pub write_natural-from-requires : goal.write_natural-from-requires
write_natural-from-requires c =
    from-room c.args.first c.args.last (omega (arith, c.well_formed, c.ranges)) _ c.args.at c.requires _ _ c.write_word-word.ensures

pub write_named-requires : goal.write_named-requires
write_named-requires c =
    to_room c.args.first c.args.last (omega (arith, c.well_formed, c.ranges)) _ c.args.at c.requires _ _ c.write_word-word.ensures _ _ c.write_natural-from.ensures

pub returns : goal.returns
returns c =
    lines_noted c.args.first c.args.last (omega (arith, c.well_formed, c.ranges)) _ c.args.at c.requires _ _ c.write_word-word.ensures _ _ c.write_natural-from.ensures _ _ c.write_named.ensures
