-- `printing::write_lines` meets its contract: the lines so far, and those left.
use mathlib.Core.Path.{◌≡◌}
use mathlib.Core.List.{List}
use Prim.Native.Nat.{ℕ, ◌+◌, ◌*◌, ◌^◌, ◌<◌}
use native.Mathlib.Omega.{arith}
use borrow.Author.Rules.{rules}
use lib.ListN.{length, get_or}
use Rattle.text.specs.Printing.{line_text}
use Rattle.text.specs.Clauses.{line_size}
use Rattle.text.proofs.Sizes.{line-short}
use Rattle.text.proofs.Begun.{begun_more, begun_all}
use Rattle.printing.proofs.Rows.{lines_more, lines_none}
use Rattle.printing.proofs.write_lines.Goals as goal

pub write_line-next-requires : goal.write_line-next-requires
write_line-next-requires c =
    let b = c.loop-value.invariant.prints in
    let small : get_or c.args.values.now c.loop-value.value-index 0 < 2 ^ 32 = search rules in
    omega (arith, c.requires, c.loop-value.auto.out, b.short, b.writes.behind, line-short _ small, c.loop-value-test.true)

pub loop-value-preserved : goal.loop-value-preserved
loop-value-preserved c =
    let p = c.loop-value in
    let vs : List ℕ = c.args.values.now in
    let i : ℕ = p.value-index in
    let small : get_or vs i 0 < 2 ^ 32 = search rules in
    let next : line_size * (i + 1) ≡ line_size * i + line_size = omega arith in
    let b = rw (lines_more vs i c.loop-value-test.true) at p.invariant in
    rw next (begun_more (line_size * i) line_size (line_text (get_or vs i 0)) _ _ _ c.args.at _ _ _ _ (omega (arith, c.requires, c.loop-value-test.true)) b (record { writes = c.write_line-next.ensures; short = line-short _ small }))

pub returns : goal.returns
returns c =
    let p = c.loop-value in
    let n : p.value-index ≡ length c.args.values.now = omega (arith, c.loop-value-test.false, p.auto.value-index-end) in
    rw (← n) (begun_all (line_size * p.value-index) _ _ _ _ _ _ (lines_none c.args.values.now p.value-index c.loop-value-test.false) p.invariant)
