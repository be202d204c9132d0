-- `terms::flip_by` meets its contract.
use Rattle.std.proofs.Common.{◌≡◌, ◌∙◌, refl, ap, arith}
use Rattle.rules.specs.Bit.{bit, xor}
use Rattle.rules.specs.Shortcuts.{flipped}
use Rattle.parity.specs.View.{val}
use Rattle.parity.proofs.Tables.{table-made, table-picks}
use Rattle.terms.proofs.Crossing.{cross-mask, cross-none, cross-round, cross-front}
use Rattle.terms.proofs.flip_by.Goals as goal

pub loop-k-init : goal.loop-k-init
loop-k-init c = record { size = refl; passed = cross-none _ _ _ }

pub loop-k-preserved : goal.loop-k-preserved
loop-k-preserved c =
    let picks = table-picks (bit (val c.get-e.result.parity) c.args.t) c.digit-digit.result c.digit-digit.ensures.0 (table-made c.table-picks.result c.table-picks.ensures) in
    let crosses : val c.bitxor-parity.result ≡ flipped (val c.args.mask) c.args.t (val c.get-e.result.parity) =
    c.bitxor-parity.ensures ∙ ap (xor (val c.get-e.result.parity)) (c.pick.ensures ∙ picks) ∙ cross-mask _ _ _ in
    record {
      size = c.put.auto.room ∙ c.loop-k.invariant.size;
      passed = c.put.ensures.terms ∙ cross-round (val c.args.mask) _ _ _ _ _ _ c.loop-k.invariant.passed (omega arith) c.get-e.ensures crosses;
    }

pub returns : goal.returns
returns c =
    let e : c.loop-k.k ≡ c.args.count = omega arith in
    rw e at (cross-front _ _ _ _ _ c.loop-k.invariant.passed (omega arith))
