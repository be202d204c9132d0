-- `plain_close::clear_column` meets its contract.
use Rattle.std.proofs.Common.{refl, sym, ◌∙◌, arith}
use Rattle.rows.proofs.Room.{row_count}
use Rattle.closing.specs.Additions.{held}
use Rattle.closing.proofs.Columns.{clear_next, clear-end}
use Rattle.plain_close.proofs.clear_column.Goals as goal

pub loop-r-preserved : goal.loop-r-preserved
unfolding held
loop-r-preserved c =
    let l = c.loop-r in
    let t = c.clear_row-noted in
    record {
      few = omega (arith, t.ensures.few, l.invariant.few);
      left = l.invariant.left ∙ clear_next _ _ l.r (held l.m l.steps l.noted) _ _ (omega (arith, row_count c.args.m.now)) refl (sym t.ensures.is);
    }

pub returns : goal.returns
returns c =
    let i = c.loop-r.invariant in
    let e = row_count c.args.m.now in
    (sym (i.left ∙ clear-end _ _ _ _ (omega (arith, e))), omega (arith, e, i.few))
