-- `gate::check_whole` meets its contract.
use mathlib.Core.Path.{sym, ap, ◌∙◌}
use Rattle.rules.specs.Refusal.{accepted}
use Rattle.gate.specs.Tests.{told}
use Rattle.gate.proofs.First.{first-told, ruled-fault, ruled-none}
use Rattle.gate.proofs.check_whole.Goals as goal

pub returns-in-Some : goal.returns-in-Some
returns-in-Some c =
    let e = ap told (sym c.in-Some.is ∙ c.first_of.ensures) ∙ first-told c.args.tests.now in
    ruled-fault c.in-Some.fault _ 0 accepted e

pub returns-in-None : goal.returns-in-None
returns-in-None c =
    let e = ap told (sym c.in-None.is ∙ c.first_of.ensures) ∙ first-told c.args.tests.now in
    ruled-none _ 0 accepted e
