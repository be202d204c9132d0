-- `qasm::write_opening` meets its contract: two lines and two registers, one behind another.
use native.Mathlib.Omega.{arith}
use Prim.Native.Nat.{◌+◌, ◌≤◌}
use lib.ListN.{length}
use Rattle.text.specs.Clauses.{Prints}
use Rattle.text.proofs.Sizes.{prints-next, prints-both}
use Rattle.qasm.specs.Import.{version_line, include_line, wires_line}
use Rattle.qasm.specs.Export.{register_text, opening_text}
use Rattle.qasm.specs.Clauses.{register_size}
use Rattle.qasm.proofs.Codes.{wires-size, bits-size}
use Rattle.qasm.proofs.write_opening.Goals as goal

pub write_register-q-requires : goal.write_register-q-requires
write_register-q-requires c =
    let version : Prints 14 version_line c.args.out.now c.args.at c.write_word-version.new.out c.write_word-version.result = record { writes = c.write_word-version.ensures; short = omega arith } in
    let behind-version : c.write_word-version.result + 64 ≤ length c.write_word-version.new.out = prints-next 14 64 _ _ c.args.at _ _ c.requires.opening_size_in_bounds (version) in
    let include : Prints 22 include_line c.write_word-version.new.out c.write_word-version.result c.write_word-include.new.out c.write_word-include.result = record { writes = c.write_word-include.ensures; short = omega arith } in
    let behind-include : c.write_word-include.result + 42 ≤ length c.write_word-include.new.out = prints-next 22 42 _ _ _ _ _ (behind-version) (include) in
    (rw wires-size (omega (arith, behind-include)), c.requires.wires_bound.0)

pub write_register-requires : goal.write_register-requires
write_register-requires c =
    let version : Prints 14 version_line c.args.out.now c.args.at c.write_word-version.new.out c.write_word-version.result = record { writes = c.write_word-version.ensures; short = omega arith } in
    let behind-version : c.write_word-version.result + 64 ≤ length c.write_word-version.new.out = prints-next 14 64 _ _ c.args.at _ _ c.requires.opening_size_in_bounds (version) in
    let include : Prints 22 include_line c.write_word-version.new.out c.write_word-version.result c.write_word-include.new.out c.write_word-include.result = record { writes = c.write_word-include.ensures; short = omega arith } in
    let behind-include : c.write_word-include.result + 42 ≤ length c.write_word-include.new.out = prints-next 22 42 _ _ _ _ _ (behind-version) (include) in
    let wires : Prints register_size (register_text wires_line c.args.wires) c.write_word-include.new.out c.write_word-include.result c.write_register-q.new.out c.write_register-q.result = rw wires-size at c.write_register-q.ensures in
    let behind-wires : c.write_register-q.result + register_size ≤ length c.write_register-q.new.out = prints-next register_size register_size _ _ _ _ _ (behind-include) (wires) in
    (rw bits-size (behind-wires), c.requires.wires_bound.1)

pub returns : goal.returns
unfolding opening_text
returns c =
    let version : Prints 14 version_line c.args.out.now c.args.at c.write_word-version.new.out c.write_word-version.result = record { writes = c.write_word-version.ensures; short = omega arith } in
    let behind-version : c.write_word-version.result + 64 ≤ length c.write_word-version.new.out = prints-next 14 64 _ _ c.args.at _ _ c.requires.opening_size_in_bounds (version) in
    let include : Prints 22 include_line c.write_word-version.new.out c.write_word-version.result c.write_word-include.new.out c.write_word-include.result = record { writes = c.write_word-include.ensures; short = omega arith } in
    let behind-include : c.write_word-include.result + 42 ≤ length c.write_word-include.new.out = prints-next 22 42 _ _ _ _ _ (behind-version) (include) in
    let wires : Prints register_size (register_text wires_line c.args.wires) c.write_word-include.new.out c.write_word-include.result c.write_register-q.new.out c.write_register-q.result = rw wires-size at c.write_register-q.ensures in
    prints-both 14 64 _ _ c.args.at _ _ c.requires.opening_size_in_bounds (version) _ _ _
    (prints-both 22 42 _ _ _ _ _ (behind-version) (include) _ _ _
    (prints-both register_size register_size _ _ _ _ _ (behind-include) (wires) _ _ _ (rw bits-size at c.write_register.ensures)))
