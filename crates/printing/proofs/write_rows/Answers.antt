-- `printing::write_rows` meets its contract: the lines so far, and those left.
use mathlib.Core.Path.{◌≡◌}
use mathlib.Core.List.{List, []}
use Prim.Native.Nat.{ℕ, ◌+◌, ◌*◌, ◌/◌, ◌<◌}
use native.Mathlib.Nat.{sub-zero}
use native.Mathlib.Omega.{arith}
use lib.IntN.{ℤ}
use lib.ListN.{length, get_or, take, drop, length-drop}
use lib.Seq.{length-take-le, take-take}
use Rattle.rules.specs.Limits.{width}
use Rattle.text.specs.Clauses.{Prints, number_size}
use Rattle.text.proofs.Begun.{begun-none, begun_more, begun_all}
use Rattle.spelling.specs.Texts.{row_text, Form, per_gate}
use Rattle.spelling.specs.Forms.{form_of}
use Rattle.spelling.proofs.Forms.{per-gate-le}
use Rattle.spelling.proofs.Chunks.{chunk_at}
use Rattle.printing.proofs.Rows.{rows_more, rows_none}
use Rattle.printing.proofs.write_rows.Goals as goal

abbrev row_size : ℕ
row_size = number_size * width

-- no more bytes than six numbers take
row-short : (f : Form) (new room : List ℕ) (at : ℕ) (room' : List ℕ) (next : ℕ) → Prints (number_size * per_gate f) new room at room' next → Prints row_size new room at room' next
row-short f new room at room' next p = record { writes = p.writes; short = omega (arith, p.short, per-gate-le f) }

pub loop-row-init : goal.loop-row-init
loop-row-init c = rw (sub-zero (length c.args.numbers.now / width)) (begun-none _ _ _)

pub loop-row-preserved : goal.loop-row-preserved
loop-row-preserved c =
    let p = c.loop-row in
    let f : Form = form_of c.args.form in
    let ns : List ℤ = c.args.numbers.now in
    let n : ℕ = length ns / width in
    let i : ℕ = p.row-index in
    let lt : i < n = omega (arith, c.loop-row-test.true, c.as_chunks.ensures.front_len) in
    let row : get_or c.as_chunks.result.0.now i [] ≡ take width (drop (width * i) ns) = rw c.as_chunks.ensures.front (chunk_at width n ns i lt) in
    let shown : take (per_gate f) (take width (drop (width * i) ns)) ≡ take (per_gate f) (drop (width * i) ns) = take-take (per_gate f) width (drop (width * i) ns) (per-gate-le f) in
    let size : length (take (per_gate f) (drop (width * i) ns)) ≡ per_gate f = length-take-le (per_gate f) (drop (width * i) ns) (omega (arith, length-drop (width * i) ns, per-gate-le f)) in
    let wrote = row-short f _ _ _ _ _ (rw (c.per_gate-shown.ensures, row, shown, size) at c.write_row-next.ensures) in
    let next : row_size * (i + 1) ≡ row_size * i + row_size = omega arith in
    let b = rw (rows_more f n ns i lt) at p.invariant in
    rw next (begun_more (row_size * i) row_size (row_text (take (per_gate f) (drop (width * i) ns))) _ _ _ c.args.at _ _ _ _ (omega (arith, c.requires)) b wrote)

pub returns : goal.returns
returns c =
    let p = c.loop-row in
    let ns : List ℤ = c.args.numbers.now in
    let all = begun_all (row_size * p.row-index) _ _ _ _ _ _ (rows_none (form_of c.args.form) (length ns / width) ns p.row-index (omega (arith, c.loop-row-test.false, c.as_chunks.ensures.front_len))) p.invariant in
    record { writes = all.writes; short = omega (arith, all.short, p.auto.row-index-end, c.as_chunks.ensures.front_len) }
