-- `text::write_all_spaced` meets its contract: the numbers so far, and those left.
use Rattle.std.proofs.Common.{◌≡◌, ℕ, ◌+◌, ◌*◌, length, get_or, arith}
use Rattle.text.specs.Printing.{spaced_text}
use Rattle.text.specs.Clauses.{line_size}
use Rattle.text.proofs.Sizes.{spaced-short}
use Rattle.text.proofs.Begun.{begun_more, begun_all, spaced-more, spaced-none}
use Rattle.text.proofs.write_all_spaced.Goals as goal

pub write_spaced-next-requires : goal.write_spaced-next-requires
write_spaced-next-requires c =
    let p = c.loop-n in
    let b = p.invariant.prints in
    omega (arith, c.requires, p.auto.out, b.short, b.writes.behind, spaced-short (get_or c.args.numbers.now p.n-index 0) (c.type_inv.numbers p.n-index).fits)

pub loop-n-preserved : goal.loop-n-preserved
loop-n-preserved c =
    let p = c.loop-n in
    let n : ℕ = get_or c.args.numbers.now p.n-index 0 in
    let next : line_size * (p.n-index + 1) ≡ line_size * p.n-index + line_size = omega arith in
    let b = rw (spaced-more c.args.numbers.now p.n-index c.loop-n-test.true) at p.invariant in
    rw next
    (begun_more (line_size * p.n-index) line_size (spaced_text n) _ _ _ c.args.at _ _ _ _ (omega (arith, c.requires)) b (record { writes = c.write_spaced-next.ensures; short = spaced-short n (c.type_inv.numbers p.n-index).fits }))

pub returns : goal.returns
returns c =
    let p = c.loop-n in
    let n : p.n-index ≡ length c.args.numbers.now = omega arith in
    rw (← n) (begun_all (line_size * p.n-index) _ _ _ _ _ _ (spaced-none c.args.numbers.now p.n-index c.loop-n-test.false) p.invariant)
