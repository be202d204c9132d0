-- `plain_flush::keep` meets its contract: what the keep test says is what document 01 chooses.
use Rattle.std.proofs.Common.{◌*◌, length, sym, ap, ◌∙◌}
use lib.Seq.{length-take-le, take_at}
use Rattle.rules.specs.Limits.{width}
use Rattle.rules.proofs.Reading.{gates-length}
use Rattle.plain_flush.proofs.Choosing.{keeps-new, dearer, new_is}
use Rattle.plain_flush.proofs.keep.Goals as goal
use Rattle.plain_flush.proofs.keep.Goals.{Then-cheaper}

pub returns-then-cheaper : goal.returns-then-cheaper
returns-then-cheaper c write x s =
    let a = c.args in
    let e = c.copy.ensures in
    keeps-new write a.run.now a.whole.now a.k x s _ _ _ c.count_two-new.ensures c.count_two.ensures (sym (gates-length a.run.now)) (sym c.cheaper.ensures ∙ c.if-cheaper.true) _
    (take_at _ _ (width * a.k) (ap length e ∙ length-take-le (width * a.k) a.whole.now c.requires.1) ∙ e)

pub returns-else-cheaper : goal.returns-else-cheaper
returns-else-cheaper c write x s =
    let a = c.args in
    let n = sym (gates-length a.run.now) in
    c.stay.ensures write x
    (dearer write a.run.now a.whole.now a.k x s _ _ _ c.count_two-new.ensures c.count_two.ensures n (sym c.cheaper.ensures ∙ c.if-cheaper.false))
    (new_is write a.run.now a.whole.now a.k x s _ _ _ c.count_two-new.ensures c.count_two.ensures n)
