-- `absorb::absorb` meets its contract: by the code.
use Rattle.std.proofs.Common.{◌≤◌, arith}
use Rattle.rules.specs.Fold.{entered}
use Rattle.absorb.proofs.Absorbing.{flip-absorbs, cnot-absorbs}
use Rattle.block.proofs.Codes.{op-x, op-turn, op-cnot, op-cz, two-wires}
use Rattle.absorb.proofs.absorb.Goals as goal

pub absorb_x-requires : goal.absorb_x-requires
unfolding entered
absorb_x-requires c =
    record { rowed = c.requires.sound.rows_are; inside = c.requires.wired.first-in; few = rw (op-x c.args.g c.in-1.is) at c.requires.few }

pub returns-in-1 : goal.returns-in-1
returns-in-1 c =
    rw (op-x c.args.g c.in-1.is) (flip-absorbs _ _ _ _ _ _ _ c.requires.indexed _ c.absorb_x.ensures c.requires.sound.terms-are)

pub absorb_cnot-requires : goal.absorb_cnot-requires
unfolding entered
absorb_cnot-requires c =
    record {
      rowed = c.requires.sound.rows_are;
      control = c.requires.wired.first-in;
      target = c.requires.wired.second-in (two-wires c.args.g.code (omega arith) (omega arith));
      few = rw (op-cnot c.args.g c.in-8.is) at c.requires.few;
    }

pub returns-in-8 : goal.returns-in-8
returns-in-8 c =
    rw (op-cnot c.args.g c.in-8.is) (cnot-absorbs _ _ _ _ _ _ _ c.requires.indexed _ _ c.absorb_cnot.ensures c.requires.sound.terms-are)

pub absorb_cz-requires-clause-enterable_two : goal.absorb_cz-requires-clause-enterable_two
unfolding entered
absorb_cz-requires-clause-enterable_two c =
    record {
      rowed = c.requires.sound.rows_are;
      control = c.requires.wired.first-in;
      target = c.requires.wired.second-in (two-wires c.args.g.code (omega arith) (omega arith));
      few = rw (op-cz c.args.g c.in-9.is) at c.requires.few;
    }

pub returns-in-9 : goal.returns-in-9
returns-in-9 c = rw (op-cz c.args.g c.in-9.is) c.absorb_cz.ensures

pub absorb_turn-requires-clause-enterable : goal.absorb_turn-requires-clause-enterable
unfolding entered
absorb_turn-requires-clause-enterable c =
    let turns : (2 ≤ c.args.g.code) × (c.args.g.code ≤ 7) = (omega (arith, c.requires.least), omega (arith, c.requires.most)) in
    record { rowed = c.requires.sound.rows_are; inside = c.requires.wired.first-in; few = rw (op-turn c.args.g turns.0 turns.1) at c.requires.few }

pub returns-in_default : goal.returns-in_default
returns-in_default c =
    let turns : (2 ≤ c.args.g.code) × (c.args.g.code ≤ 7) = (omega (arith, c.requires.least), omega (arith, c.requires.most)) in
    rw (op-turn c.args.g turns.0 turns.1) (rw c.turn_of-k.ensures at c.absorb_turn.ensures)
