-- `origin::write_origins` meets its contract: the lines so far, and those left.
use mathlib.Core.Path.{◌≡◌}
use Prim.Native.Nat.{ℕ, ◌+◌, ◌*◌, ◌/◌, ◌<◌}
use native.Mathlib.Omega.{arith}
use native.Mathlib.Nat.{sub-zero}
use mathlib.Core.List.{List, []}
use lib.IntN.{ℤ}
use lib.ListN.{length, get_or}
use Rattle.rules.specs.Limits.{width}
use Rattle.text.proofs.Begun.{begun-none, begun_more, begun_all}
use Rattle.spelling.proofs.Chunks.{chunk_at}
use Rattle.qasm.proofs.Gates.{row_at}
use Rattle.origin.specs.Clauses.{row_text, origin_size}
use Rattle.origin.proofs.Noting.{rows_more, rows_none}
use Rattle.origin.proofs.write_origins.Goals as goal

pub loop-row-init : goal.loop-row-init
loop-row-init c = rw (sub-zero (length c.args.numbers.now / width)) (begun-none _ _ _)

pub loop-row-preserved : goal.loop-row-preserved
loop-row-preserved c =
    let p = c.loop-row in
    let ns : List ℤ = c.args.numbers.now in
    let n : ℕ = length ns / width in
    let i : ℕ = p.row-index in
    let lt : i < n = omega (arith, c.loop-row-test.true, c.as_chunks.ensures.front_len) in
    let row : get_or c.as_chunks.result.0.now i [] ≡ row_at ns i = rw c.as_chunks.ensures.front (chunk_at width n ns i lt) in
    let next : origin_size * (i + 1) ≡ origin_size * i + origin_size = omega arith in
    let b = rw (rows_more c.args.source n ns i lt) at p.invariant in
    rw next (begun_more (origin_size * i) origin_size (row_text c.args.source (row_at ns i)) _ _ _ c.args.at _ _ _ _ (omega (arith, c.requires)) b (rw row at c.write_origin-next.ensures))

pub returns : goal.returns
returns c =
    let p = c.loop-row in
    let ns : List ℤ = c.args.numbers.now in
    let all = begun_all (origin_size * p.row-index) _ _ _ _ _ _ (rows_none c.args.source (length ns / width) ns p.row-index (omega (arith, c.loop-row-test.false, c.as_chunks.ensures.front_len))) p.invariant in
    record { writes = all.writes; short = omega (arith, all.short, p.auto.row-index-end, c.as_chunks.ensures.front_len) }
