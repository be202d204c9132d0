-- `text::read_integer` meets its contract.
use Rattle.std.proofs.Common.{arith, pos, sym, subst}
use mir.Syntax.{w32}
use mir.Val.{SFits}
use mir.ValLaws.{to_z-of_z}
use Rattle.text.proofs.Readings.{natural-small, unsigned_none, unsigned_some, signed_none, signed_zero, signed_some}
use Rattle.text.proofs.read_integer.Goals as goal

pub returns-in_err-value : goal.returns-in_err-value
returns-in_err-value c = rw c.from_residual.ensures (unsigned_none c.args.text.now c.in_default.ensures c.in_err-value.ensures)

pub overflow_cast-result : goal.overflow_cast-result
overflow_cast-result c = record { sfits = omega (arith, natural-small c.args.text.now c.in_ok-value.value c.in_ok-value.rest.now c.in_ok-value.ensures) }

pub returns-in_default : goal.returns-in_default
returns-in_default c =
    let small = natural-small c.args.text.now c.in_ok-value.value c.in_ok-value.rest.now c.in_ok-value.ensures in
    rw (to_z-of_z w32 (pos c.in_ok-value.value) (record { sfits = omega (arith, small) }))
    (unsigned_some c.args.text.now c.in_ok-value.value c.in_ok-value.rest.now c.in_default.ensures c.in_ok-value.ensures)

pub returns-in_err-value-2 : goal.returns-in_err-value-2
returns-in_err-value-2 c = rw c.from_residual-in_err-value-2.ensures (signed_none c.args.text.now c.in-Some.unsigned.now c.in-Some.ensures c.in_err-value-2.ensures)

pub returns-then-value-eq0 : goal.returns-then-value-eq0
returns-then-value-eq0 c = signed_zero c.args.text.now c.in-Some.unsigned.now c.in_ok-value-2.value c.in_ok-value-2.rest.now c.in-Some.ensures c.in_ok-value-2.ensures c.if-value-eq0.true

pub returns : goal.returns
returns c =
    let v = c.in_ok-checked_sub_unsigned in
    let n = c.in_ok-value-2 in
    rw (to_z-of_z w32 v.field-0 (subst (SFits w32) (sym v.ensures.1) v.ensures.0))
    (signed_some c.args.text.now c.in-Some.unsigned.now n.value n.rest.now v.field-0 c.in-Some.ensures n.ensures c.if-value-eq0.false v.ensures.1)
