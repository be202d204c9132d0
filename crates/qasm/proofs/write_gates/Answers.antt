-- `qasm::write_gates` meets its contract: the lines so far, and those left.
use mathlib.Core.Path.{◌≡◌}
use Prim.Native.Nat.{ℕ, ◌+◌, ◌*◌, ◌/◌, ◌<◌}
use native.Mathlib.Omega.{arith}
use native.Mathlib.Nat.{sub-zero}
use mathlib.Core.List.{List, []}
use lib.IntN.{ℤ}
use lib.ListN.{length, get_or}
use Rattle.rules.specs.Limits.{width}
use Rattle.text.proofs.Begun.{begun-none, begun_more, begun_all}
use Rattle.spelling.proofs.Chunks.{chunk_at}
use Rattle.qasm.specs.Statement.{statement_text}
use Rattle.qasm.specs.Clauses.{statement_size}
use Rattle.qasm.proofs.Gates.{row_at, statements-more, statements-none}
use Rattle.qasm.proofs.write_gates.Goals as goal

pub loop-row-init : goal.loop-row-init
loop-row-init c = rw (sub-zero (length c.args.numbers.now / width)) (begun-none _ _ _)

pub loop-row-preserved : goal.loop-row-preserved
loop-row-preserved c =
    let p = c.loop-row in
    let ns : List ℤ = c.args.numbers.now in
    let n : ℕ = length ns / width in
    let i : ℕ = p.row-index in
    let lt : i < n = omega (arith, c.loop-row-test.true, c.as_chunks.ensures.front_len) in
    let row : get_or c.as_chunks.result.0.now i [] ≡ row_at ns i = rw c.as_chunks.ensures.front (chunk_at width n ns i lt) in
    let next : statement_size * (i + 1) ≡ statement_size * i + statement_size = omega arith in
    let b = rw (statements-more n ns i lt) at p.invariant in
    rw next (begun_more (statement_size * i) statement_size (statement_text (row_at ns i)) _ _ _ c.args.at _ _ _ _ (omega (arith, c.requires)) b (rw row at c.write_gate-next.ensures))

pub returns : goal.returns
returns c =
    let p = c.loop-row in
    let ns : List ℤ = c.args.numbers.now in
    let all = begun_all (statement_size * p.row-index) _ _ _ _ _ _ (statements-none (length ns / width) ns p.row-index (omega (arith, c.loop-row-test.false, c.as_chunks.ensures.front_len))) p.invariant in
    record { writes = all.writes; short = omega (arith, all.short, p.auto.row-index-end, c.as_chunks.ensures.front_len) }
