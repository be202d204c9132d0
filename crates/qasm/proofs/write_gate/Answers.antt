-- `qasm::write_gate` meets its contract.
use mathlib.Core.Path.{◌≡◌}
use native.Mathlib.Omega.{arith}
use borrow.Author.Rules.{rules}
use lib.IntN.{pos}
use lib.ListN.{get_or}
use Rattle.rules.specs.Numbers.{nat_of}
use Rattle.qasm.specs.Table.{template}
use Rattle.qasm.specs.Statement.{statement_text}
use Rattle.qasm.proofs.Codes.{fine}
use Rattle.qasm.proofs.write_gate.Goals as goal

pub write_by-requires : goal.write_by-requires
write_by-requires c = rw c.template.ensures (omega (arith, c.requires, (fine c.nat.result).size))

pub returns : goal.returns
unfolding statement_text
returns c =
    let code : c.template.result.now ≡ template (nat_of (get_or c.args.row.now 0 (pos 0))) = search rules in
    let wrote = rw code at c.write_by.ensures in
    record { writes = wrote.writes; short = omega (arith, wrote.short, (fine (nat_of (get_or c.args.row.now 0 (pos 0)))).size) }
