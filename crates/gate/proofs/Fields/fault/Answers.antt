-- `gate::Fields::fault` meets its contract.
use mathlib.Core.Path.{◌≡◌}
use mir.Syntax.{w32}
use mir.Val.{to_z, of_z}
use mir.ValLaws.{to_z-of_z}
use Rattle.gate.proofs.Faultless.{fault-by}
use Rattle.gate.proofs.Fields.fault.Goals as goal

pub returns : goal.returns
returns c =
    let f = c.args.self in
    let first : to_z w32 (of_z w32 f.first) ≡ f.first = to_z-of_z w32 f.first search in
    let second : to_z w32 (of_z w32 f.second) ≡ f.second = to_z-of_z w32 f.second search in
    let third : to_z w32 (of_z w32 f.third) ≡ f.third = to_z-of_z w32 f.third search in
    let line : to_z w32 (of_z w32 f.line) ≡ f.line = to_z-of_z w32 f.line search in
    fault-by f c.args.wires c.args.bits c.from.ensures c.unused.ensures (rw first at c.inside-first_off.ensures) c.second.ensures (rw second at c.inside.ensures) c.bitted.ensures (rw second at c.inside-2.ensures) c.third.ensures (rw third at c.inside-3.ensures) c.apart.ensures (rw line at c.negative.ensures) c.first_of.result c.first_of.ensures
