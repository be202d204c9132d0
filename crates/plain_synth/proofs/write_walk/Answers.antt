-- `plain_synth::write_walk` meets its contract: the walk goes from the unit rows.
use Rattle.std.proofs.Common.{◌≡◌, ℕ, length, ap, ◌∙◌, arith}
use Rattle.rules.specs.Walk.{held}
use Rattle.rules.specs.Close.{units}
use Rattle.rows.specs.Rows.{rows_of}
use Rattle.rows.proofs.Room.{row_count}
use Rattle.block.specs.View.{terms_at}
use Rattle.plain_synth.proofs.write_walk.Goals as goal

pub phase_walk-requires-clause-lent : goal.phase_walk-requires-clause-lent
unfolding terms_at
phase_walk-requires-clause-lent c =
    let p = c.requires.walkable in
    record {
      wires = record { few = omega (arith, p.few, p.named); each = p.wired };
      many = p.named;
      deep = p.deep;
      rows = omega (arith, p.held, row_count c.set_units.new.m);
      room = c.requires.fits;
    }

pub returns : goal.returns
unfolding terms_at
returns c =
    let g = c.phase_walk in
    let n : length (rows_of c.args.held.now) ≡ c.args.block.now.wires = omega (arith, row_count c.args.held.now, c.requires.walkable.held) in
    let f : rows_of c.set_units.new.m ≡ units c.args.block.now.wires 0 = c.set_units.ensures ∙ ap (λ (m : ℕ). units m 0) n in
    record { wrote = g.ensures.wrote; rows = g.ensures.rows ∙ ap (held _) f }
