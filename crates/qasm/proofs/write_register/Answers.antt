-- `qasm::write_register` meets its contract.
use mathlib.Core.Path.{sym}
use native.Mathlib.Omega.{arith}
use borrow.Author.Tests.{eq-eqb, ne_eqb}
use lib.IntN.{pos}
use mir.Syntax.{w32}
use mir.ValLaws.{to_z-of_z}
use Rattle.text.proofs.Pasting.{pasted-none}
use Rattle.qasm.specs.Export.{register_text}
use Rattle.qasm.proofs.write_register.Goals as goal

pub returns-then-size-eq0 : goal.returns-then-size-eq0
unfolding register_text
returns-then-size-eq0 c =
    let s = c.args in
    rw (eq-eqb s.size 0 c.if-size-eq0.true) (record { writes = record { text = sym (pasted-none _ s.at); behind = omega arith }; short = omega arith })

pub returns : goal.returns
unfolding register_text
returns c =
    let f = to_z-of_z w32 (pos c.args.size) (record { sfits = c.requires.1 }) in
    rw (ne_eqb c.args.size 0 c.if-size-eq0.false) (rw f at c.write_by.ensures)
