-- `compare::weigh` meets its contract: by the code.
use Rattle.std.proofs.Common.{◌∙◌, inl, inr, sym, arith}
use Rattle.parity.specs.View.{val}
use Rattle.rows.specs.Rows.{rows_of}
use Rattle.rows.proofs.Room.{row_get}
use Rattle.rules.specs.Meaning.{op}
use Rattle.gate.specs.Writing.{gate_of}
use Rattle.acting.specs.Table.{turns}
use Rattle.compare.specs.View.{table_at}
use Rattle.compare.proofs.Acting.{turns-x, turns-cnot, turns-cz, turns-phase, weighed-none, weighed-one, weighed-by}
use Rattle.compare.proofs.weigh.Goals as goal

pub returns-in-1 : goal.returns-in-1
returns-in-1 c =
    weighed-none c.args.i c.args.back c.args.s.now (turns (op (gate_of c.args.g)) (table_at c.args.flips c.args.rows.now))
    (elim c.in-1.is [
      | inl e ↦ turns-x c.args.g (rows_of c.args.rows.now) (val c.args.flips) e
      | inr e ↦ turns-cnot c.args.g (rows_of c.args.rows.now) (val c.args.flips) e
    ])

pub returns-in-9 : goal.returns-in-9
returns-in-9 c =
    weighed-by c.args.i c.args.back c.args.s.now (turns (op (gate_of c.args.g)) (table_at c.args.flips c.args.rows.now)) _ _ _ _ c.has.result c.has-in-9.result _
    (turns-cz c.args.g (rows_of c.args.rows.now) (val c.args.flips) c.in-9.is) (sym (row_get c.args.rows.now c.args.g.first)) (sym (row_get c.args.rows.now c.args.g.second))
    c.has.ensures c.has-in-9.ensures c.weigh_cz.ensures

pub returns-in_default : goal.returns-in_default
returns-in_default c =
    weighed-one c.args.i c.args.back c.args.s.now (turns (op (gate_of c.args.g)) (table_at c.args.flips c.args.rows.now)) c.turn_of.result _ c.has-in_default.result _
    (turns-phase c.args.g (rows_of c.args.rows.now) (val c.args.flips) (grind (arith, c.requires.ready.least)) (grind (arith, c.requires.ready.most))
    ∙ rw (c.turn_of.ensures, ← row_get c.args.rows.now c.args.g.first, c.has-in_default.ensures)) c.rotate.ensures
