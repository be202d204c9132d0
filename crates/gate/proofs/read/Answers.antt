-- `gate::read` meets its contract.
use mathlib.Core.Path.{◌≡◌, ap, ◌∙◌}
use mir.Syntax.{w32}
use mir.ValLaws.{to_z-of_z}
use Rattle.rules.specs.Meaning.{turn8}
use Rattle.rules.specs.Numbers.{gate_at}
use Rattle.turn.proofs.Eighths.{turn8-lt}
use Rattle.gate.specs.declared.Fields.{Fields}
use Rattle.gate.specs.Fields.{fields_at}
use Rattle.gate.proofs.Tests.{read_small}
use Rattle.gate.proofs.read.Goals as goal

pub returns : goal.returns
unfolding gate_at
returns c =
    let l = c.args.list.now in
    let f = c.at-fields.result in
    let e : f ≡ fields_at l c.args.i = c.at-fields.ensures.value in
    let first = read_small f.first c.nat.result (search) c.nat.ensures in
    let second = read_small f.second c.nat-2.result (search) c.nat-2.ensures in
    let third = read_small f.third c.nat-3.result (search) c.nat-3.ensures in
    let turn : c.reduce.result ≡ turn8 f.turn = c.reduce.ensures ∙ ap turn8 (to_z-of_z w32 f.turn (search)) in
    record {
      code = ap (λ (g : Fields). g.code) e;
      first = rw e at first.0;
      second = rw e at second.0;
      third = rw e at third.0;
      turn = rw e at turn;
      code_lt = c.at-fields.ensures.small;
      first-lt = first.1;
      second_lt = second.1;
      third-lt = third.1;
      turn-lt = rw turn (turn8-lt f.turn);
    }
