-- `qasm::write_qasm` meets its contract: the lines before the gates, and a line for each gate.
use Prim.Native.Nat.{◌*◌, ◌/◌}
use lib.ListN.{length}
use Rattle.rules.specs.Limits.{width}
use Rattle.text.proofs.Sizes.{prints-both}
use Rattle.qasm.specs.Export.{qasm_text}
use Rattle.qasm.specs.Clauses.{statement_size, opening_size}
use Rattle.qasm.proofs.write_qasm.Goals as goal

pub returns : goal.returns
unfolding qasm_text
returns c =
    prints-both opening_size (statement_size * (length c.args.numbers.now / width)) _ _ c.args.at _ _ c.requires.fits c.write_opening-next.ensures _ _ _ c.write_gates.ensures
