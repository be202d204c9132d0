-- `say` of `trace::Pieces` meets its contract: the lines so far, and those of the pieces that are left.
use mathlib.Core.Path.{◌≡◌, refl, ap, ◌∙◌}
use Prim.Native.Nat.{◌+◌, ◌-◌, ◌*◌, ◌/◌, ◌≤◌}
use native.Mathlib.Omega.{arith}
use lib.ListN.{length}
use Rattle.rules.specs.Limits.{width}
use Rattle.rules.specs.Plan.{plan_of}
use Rattle.rules.specs.Scan.{pieces_of}
use Rattle.rules.specs.Pass.{writer_of}
use Rattle.text.proofs.Begun.{begun-none, begun_more, begun_all}
use Rattle.spelling.specs.Heads.{head_of}
use Rattle.saying.proofs.Saying.{says-printed}
use Rattle.scan.specs.Scanning.{run}
use Rattle.scan.proofs.Folding.{rest_all}
use Rattle.scan.proofs.Writing.{part, part-gates}
use Rattle.origin.specs.Clauses.{origin_size}
use Rattle.trace.specs.Answer.{traced}
use Rattle.trace.proofs.Tracing.{text-next, text-none, natural, part-size, part_right}
use Rattle.trace.proofs.PiecesProgram.say.Goals as goal
use Rattle.trace.proofs.PiecesProgram.say.Invariants.{told}

pub loop-at-init : goal.loop-at-init
loop-at-init c = (omega arith, refl, begun-none _ _ _)

pub piece_end-end-requires : goal.piece_end-end-requires
piece_end-end-requires c = (record { few = c.requires.few; exact = c.requires.right }, c.loop-at-test.true)

pub write_piece-next-requires : goal.write_piece-next-requires
write_piece-next-requires c =
    let p = c.loop-at in
    let e = c.piece_end-end in
    let l = c.args.numbers.now in
    let h = head_of c.args.head in
    let b = p.invariant.2.prints in
    let gs = part-gates l (natural h l (record { few = c.requires.few; exact = c.requires.right })) p.at e.result (omega (arith, e.ensures.onward)) e.ensures.inside in
    let size = part-size h l (record { few = c.requires.few; exact = c.requires.right }) p.at e.result (omega (arith, e.ensures.onward)) e.ensures.inside in
    record { right = (part_right h l (record { few = c.requires.few; exact = c.requires.right }) p.at e.result (omega (arith, e.ensures.onward)) e.ensures.inside, record { piece = e.ensures.piece; is = ap (pieces_of _) gs ∙ e.ensures.alone }); width_in_bounds = omega (arith, c.requires.fits, p.invariant.1, b.short, b.writes.behind, size, e.ensures.onward, e.ensures.inside, c.requires.few.few) }

pub loop-at-smaller : goal.loop-at-smaller
loop-at-smaller c = omega (arith, c.piece_end-end.ensures.onward, c.piece_end-end.ensures.inside)

pub loop-at-preserved : goal.loop-at-preserved
loop-at-preserved c =
    let p = c.loop-at in
    let e = c.piece_end-end in
    let w = c.write_piece-next in
    let l = c.args.numbers.now in
    let h = head_of c.args.head in
    let q = plan_of c.args.head.qubits c.args.head.terms in
    let i = p.at in
    let j = e.result in
    let k : i ≤ j = omega (arith, e.ensures.onward) in
    let gs = part-gates l (natural h l (record { few = c.requires.few; exact = c.requires.right })) i j k e.ensures.inside in
    let count : length (part l i j) / width ≡ j - i = omega (arith, part-size h l (record { few = c.requires.few; exact = c.requires.right }) i j k e.ensures.inside) in
    let b = rw (text-next (writer_of q) q l i j e.ensures) at p.invariant.2 in
    let wrote = rw (count, gs) at w.ensures in
    let next : origin_size * j ≡ origin_size * i + origin_size * (j - i) = omega arith in (
      e.ensures.inside,
      w.auto.out ∙ p.invariant.1,
      rw next (begun_more (origin_size * i) (origin_size * (j - i)) (told q (run l i j)) _ _ _ 0 _ _ _ _ (omega (arith, c.requires.fits, e.ensures.inside, c.requires.few.few)) b wrote),
    )

pub shape_of-out : goal.shape_of-out
shape_of-out c = c.loop-at.invariant.1

pub returns : goal.returns
unfolding traced
returns c =
    let p = c.loop-at in
    let l = c.args.numbers.now in
    let q = plan_of c.args.head.qubits c.args.head.terms in
    let all = begun_all (origin_size * p.at) _ _ _ 0 _ _ (text-none (writer_of q) q l p.at (omega arith)) p.invariant.2 in
    rw (← rest_all l) (says-printed _ (origin_size * p.at) _ _ _ _ (omega (arith, p.invariant.0, c.requires.fits, c.requires.few.few)) all)
