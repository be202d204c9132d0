-- `flush::settle` meets its contract: what the keep test says is what document 01 chooses.
use Rattle.std.proofs.Common.{◌≡◌, false, ◌&&◌, Ok, refl, sym, ◌∙◌}
use Rattle.rules.proofs.Reading.{gates-length}
use Rattle.budget.specs.View.{counts_after, made}
use Rattle.flush.specs.Choice.{keeps}
use Rattle.flush.proofs.Keeping.{kept, copied}
use Rattle.flush.proofs.settle.Goals as goal
use Rattle.flush.proofs.settle.Goals.{in_default-via-in-Ok+else-cheaper, in_default-via-in_default}

pub returns-in-Ok : goal.returns-in-Ok
returns-in-Ok c write x t =
    let a = c.args in
    kept write a.run.now a.place.now (Ok c.in-Ok.b) (rw c.in-Ok.is at t) x (sym c.cheaper.ensures ∙ c.if-cheaper.true)

pub returns-in_default : goal.returns-in_default
returns-in_default c write x t =
    let a = c.args in
    let test : (made a.p && keeps (counts_after a.p)) ≡ false =
    elim c.in_default.branch [ in_default-via-in-Ok+else-cheaper w ↦ rw w.in-Ok.is (sym w.cheaper.ensures ∙ w.if-cheaper.false) | in_default-via-in_default w ↦ rw w.in_default.is refl ] in
    copied write a.run.now a.place.now a.p t x test _ _ c.copy.ensures (sym (gates-length a.run.now))
