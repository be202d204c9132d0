-- `qasm::read_body` meets its contract: what is left of the text comes to what all of it does.
use mathlib.Core.Path.{◌≡◌}
use Prim.Native.Nat.{ℕ, suc, ◌+◌, ◌-◌, ◌^◌, ◌≤◌, ◌<◌}
use native.Mathlib.Omega.{arith}
use borrow.Author.Rules.{rules}
use lib.IntN.{pos}
use lib.ListN.{length, set, length-set}
use Rattle.std.proofs.lemmas.Result.{err_from_is_err_and}
use Rattle.rules.specs.Limits.{width}
use Rattle.gate.proofs.Tests.{stored}
use Rattle.qasm.specs.declared.Wrong.TheVariants.{Line}
use Rattle.qasm.proofs.Bodies.{statement_less}
use Rattle.qasm.proofs.Fronts.{err_or}
use Rattle.qasm.proofs.Keeping.{goes-kept, goes-left, put-row, goes-stop, goes_end}
use Rattle.qasm.proofs.read_body.Goals as goal
use Rattle.qasm.proofs.read_body.Goals.{then-i-most, else-i-most}

pub returns-in_err-row : goal.returns-in_err-row
returns-in_err-row c =
    let p = c.loop-rest in
    let n : ℕ = length c.args.text.now in
    let some : 1 ≤ length p.rest.now = search rules in
    let f : n - p.i ≡ suc (n - (p.i + 1)) = omega (arith, p.invariant.shorter, some) in
    let is = err_from_is_err_and c.from_residual.result c.from_residual.ensures.1 in
    let line = err_or c.read_statement.result (Line (c.args.line + p.i)) c.in_err-row.field-0.0 c.in_err-row.ensures.ok_part c.in_err-row.ensures.value in
    let no = rw c.in_err-row.ensures.ok_part at c.read_statement.ensures in
    rw (is.1, is.2, line) (goes-stop _ c.args.most _ _ p.i (n - (p.i + 1)) c.args.wires c.args.bits _ p.rest.now (rw f at p.invariant.goes) some no)

pub loop-rest-smaller : goal.loop-rest-smaller
loop-rest-smaller c =
    let read = rw c.in_ok-row.ensures.ok_part at c.read_statement.ensures in
    statement_less c.args.wires c.args.bits c.loop-rest.rest.now c.in_ok-row.row c.in_ok-row.next.now read

pub loop-rest-preserved : goal.loop-rest-preserved
loop-rest-preserved c =
    let p = c.loop-rest in
    let n : ℕ = length c.args.text.now in
    let some : 1 ≤ length p.rest.now = search rules in
    let f : n - p.i ≡ suc (n - (p.i + 1)) = omega (arith, p.invariant.shorter, some) in
    let k : suc (c.args.line + p.i) ≡ c.args.line + (p.i + 1) = omega arith in
    let read = rw c.in_ok-row.ensures.ok_part at c.read_statement.ensures in
    let small : c.args.line + p.i < 2 ^ 31 = omega (arith, p.invariant.shorter, c.requires.line_bound) in
    let size : length c.in_ok-row.row ≡ width = search rules in
    let less = statement_less c.args.wires c.args.bits p.rest.now c.in_ok-row.row c.in_ok-row.next.now read in
    record {
      shorter = omega (arith, p.invariant.shorter, less);
      goes = elim c.if-i-most.branch [
        | then-i-most w ↦
            rw (w.numbers-is, w.copy_from_slice.ensures.after, stored (c.args.line + p.i) small, put-row p.numbers (set c.in_ok-row.row 5 (pos (c.args.line + p.i))) p.i (simp length-set size))
            (rw k at (goes-kept _ c.args.most _ p.numbers p.i (n - (p.i + 1)) c.args.wires c.args.bits (c.args.line + p.i) p.rest.now c.in_ok-row.row c.in_ok-row.next.now (rw f at p.invariant.goes) some read size (omega (arith, c.requires.most_in_bounds, p.auto.numbers)) w.if-i-most.true))
        | else-i-most w ↦
            rw w.numbers-is
            (rw k at (goes-left _ c.args.most _ p.numbers p.i (n - (p.i + 1)) c.args.wires c.args.bits (c.args.line + p.i) p.rest.now c.in_ok-row.row c.in_ok-row.next.now (rw f at p.invariant.goes) some read size w.if-i-most.false))
      ];
    }

pub returns : goal.returns
returns c =
    let p = c.loop-rest in
    let none : length p.rest.now ≤ 0 = search rules in
    goes_end _ c.args.most _ _ p.i _ c.args.wires c.args.bits _ p.rest.now none p.invariant.goes
