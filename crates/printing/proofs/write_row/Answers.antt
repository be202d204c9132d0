-- `printing::write_row` meets its contract: the numbers so far, and those left.
use mathlib.Core.Path.{◌≡◌}
use mathlib.Core.Bool.{cond}
use mathlib.Core.List.{List}
use Prim.Native.Nat.{ℕ, ◌+◌, ◌-◌, ◌*◌}
use native.Mathlib.Omega.{arith}
use borrow.Author.Rules.{rules}
use lib.Dec.{eqb}
use lib.IntN.{ℤ, pos}
use lib.ListN.{length, get_or}
use mir.Syntax.{w32}
use mir.Val.{SFits}
use mir.ValLaws.{to_z-of_z}
use Rattle.text.specs.Bytes.{lf, blank}
use Rattle.text.specs.Printing.{ended_text}
use Rattle.text.specs.Clauses.{number_size}
use Rattle.text.proofs.Sizes.{ended-short}
use Rattle.text.proofs.Begun.{begun_more, begun_all}
use Rattle.printing.proofs.Rows.{row_more, row-none}
use Rattle.printing.proofs.write_row.Goals as goal

pub write_ended-next-requires : goal.write_ended-next-requires
write_ended-next-requires c =
    let p = c.loop-k in
    let b = p.invariant.prints in
    let v : ℤ = get_or c.args.row.now p.k (pos 0) in
    let f : SFits w32 v = search rules in
    rw (to_z-of_z w32 v f) (omega (arith, c.requires, p.auto.out, b.short, b.writes.behind, ended-short c.end_of.result v f, c.loop-k-test.true))

pub loop-k-preserved : goal.loop-k-preserved
loop-k-preserved c =
    let p = c.loop-k in
    let vs : List ℤ = c.args.row.now in
    let v : ℤ = get_or vs p.k (pos 0) in
    let end : ℕ = cond (eqb (length vs - (p.k + 1)) 0) lf blank in
    let f : SFits w32 v = search rules in
    let wrote = rw (to_z-of_z w32 v f, c.end_of.ensures) at c.write_ended-next.ensures in
    let next : number_size * (p.k + 1) ≡ number_size * p.k + number_size = omega arith in
    let b = rw (row_more vs p.k c.loop-k-test.true) at p.invariant in
    rw next (begun_more (number_size * p.k) number_size (ended_text end v) _ _ _ c.args.at _ _ _ _ (omega (arith, c.requires, c.loop-k-test.true)) b (record { writes = wrote; short = ended-short end v f }))

pub returns : goal.returns
returns c =
    let p = c.loop-k in
    let n : p.k ≡ length c.args.row.now = omega (arith, c.loop-k-test.false, p.auto.k-end) in
    rw (← n) (begun_all (number_size * p.k) _ _ _ _ _ _ (row-none c.args.row.now p.k c.loop-k-test.false) p.invariant)
