-- `text::write_integer` meets its contract: the minus, and the digits behind it or alone.
use Rattle.std.proofs.Common.{◌≡◌, [], ◌∷◌, length, ap, sym, ◌∙◌, true, false}
use Rattle.std.specs.Prelude.{unsigned_abs}
use Rattle.std.specs.Int.{is_negative}
use mir.Syntax.{w32}
use mir.ValLaws.{to_z-of_z}
use Rattle.text.specs.Bytes.{minus}
use Rattle.text.specs.Printing.{printed, decimal}
use Rattle.text.proofs.Pasting.{printed-below, printed-above, room-first, room-second, writes-both}
use Rattle.text.proofs.write_integer.Goals as goal
use Rattle.text.proofs.write_integer.Goals.{After-is_negative}

-- what the tests of the number say
module _ (c : After-is_negative) where
  size : c.unsigned_abs-size.result ≡ unsigned_abs c.args.v
  size = c.unsigned_abs-size.ensures.value ∙ ap unsigned_abs (to_z-of_z w32 c.args.v c.ranges.v)

  below : c.is_negative.result ≡ true → printed c.args.v ≡ minus ∷ decimal c.unsigned_abs-size.result
  below e = printed-below c.args.v (sym (ap is_negative (to_z-of_z w32 c.args.v c.ranges.v)) ∙ (sym c.is_negative.ensures ∙ e)) ∙ ap (λ n. minus ∷ decimal n) (sym size)

  above : c.is_negative.result ≡ false → printed c.args.v ≡ decimal c.unsigned_abs-size.result
  above e = printed-above c.args.v (sym (ap is_negative (to_z-of_z w32 c.args.v c.ranges.v)) ∙ (sym c.is_negative.ensures ∙ e)) ∙ ap decimal (sym size)

pub write_byte-next-requires : goal.write_byte-next-requires
write_byte-next-requires c =
    let v = below (goal.at.write_byte-next-requires c).After-is_negative c.if-is_negative.true in
    room-first (minus ∷ []) (decimal c.unsigned_abs-size.result) c.args.at (length c.args.out.now) (rw v at c.requires)

pub write_natural-requires : goal.write_natural-requires
write_natural-requires c =
    let v = below (goal.at.write_natural-requires c).After-is_negative c.if-is_negative.true in
    room-second (minus ∷ []) (decimal c.unsigned_abs-size.result) c.args.out.now c.args.at _ _ (rw v at c.requires) c.write_byte-next.ensures

pub write_natural-requires-else-is_negative : goal.write_natural-requires-else-is_negative
write_natural-requires-else-is_negative c =
    let v = above (goal.at.write_natural-requires-else-is_negative c).After-is_negative c.if-is_negative.false in
    rw v at c.requires

pub returns-then-is_negative : goal.returns-then-is_negative
returns-then-is_negative c =
    let v = below (goal.at.returns-then-is_negative c).After-is_negative c.if-is_negative.true in
    rw v (writes-both (minus ∷ []) (decimal c.unsigned_abs-size.result) c.args.out.now c.args.at _ _ _ _ (rw v at c.requires) c.write_byte-next.ensures c.write_natural.ensures)

pub returns-else-is_negative : goal.returns-else-is_negative
returns-else-is_negative c =
    let v = above (goal.at.returns-else-is_negative c).After-is_negative c.if-is_negative.false in
    rw v c.write_natural-else-is_negative.ensures
