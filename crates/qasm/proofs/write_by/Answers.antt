-- `qasm::write_by` meets its contract: the bytes so far, and those left.
use mathlib.Core.Path.{◌≡◌}
use Prim.Native.Nat.{ℕ, ◌+◌, ◌-◌}
use native.Mathlib.Omega.{arith}
use mathlib.Core.List.{List}
use lib.ListN.{get_or, drop}
use Rattle.text.proofs.Begun.{begun_more, begun_all}
use Rattle.qasm.specs.Statement.{piece}
use Rattle.qasm.specs.Clauses.{piece_size, template_size}
use Rattle.qasm.proofs.Pieces.{spell-more, spell-none, size-more}
use Rattle.qasm.proofs.write_by.Goals as goal

-- the size of what is written, and of what is left
abbrev gone : List ℕ → ℕ → ℕ
gone t i = template_size t - template_size (drop i t)

pub write_piece-next-requires : goal.write_piece-next-requires
write_piece-next-requires c =
    let p = c.loop-b in
    let b = p.invariant.1.prints in
    omega (arith, c.requires, p.auto.out, p.invariant.0, b.short, b.writes.behind, size-more c.args.template.now p.b-index c.loop-b-test.true)

pub loop-b-preserved : goal.loop-b-preserved
loop-b-preserved c =
    let p = c.loop-b in
    let t : List ℕ = c.args.template.now in
    let i : ℕ = p.b-index in
    let m = size-more t i c.loop-b-test.true in
    let e : gone t (i + 1) ≡ gone t i + piece_size (get_or t i 0) = omega (arith, p.invariant.0) in
    let b = rw (spell-more t i c.loop-b-test.true c.args.row.now) at p.invariant.1 in (
      omega (arith, p.invariant.0),
      rw e (begun_more (gone t i) (piece_size (get_or t i 0)) (piece (get_or t i 0) c.args.row.now) _ _ _ c.args.at _ _ _ _ (omega (arith, c.requires, p.invariant.0)) b c.write_piece-next.ensures),
    )

pub returns : goal.returns
returns c =
    let p = c.loop-b in
    let t : List ℕ = c.args.template.now in
    let all = begun_all (gone t p.b-index) _ _ _ _ _ _ (spell-none t p.b-index c.args.row.now c.loop-b-test.false) p.invariant.1 in
    record { writes = all.writes; short = omega (arith, all.short) }
