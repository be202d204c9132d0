use Rattle.std.proofs.Common.{◌≡◌, rules, length, get_or, sym, ◌∙◌}
use Rattle.std.proofs.lemmas.List.{get_or_default}
use Rattle.marks.specs.Marks.{due}
use Rattle.marks.proofs.Looking.{every-next, every-end}
use Rattle.marks.proofs.right.Goals as goal

pub loop-i-preserved : goal.loop-i-preserved
loop-i-preserved g c =
    let t = g.T.Marking in
    let eq = g.T.PartialEq.eq in
    let room = c.args.room.now in
    let i = c.loop-i.i in
    let here : get_or room i t.NONE ≡ c.index-room-i.result = get_or_default room i t.NONE _ c.loop-i-test.true ∙ sym c.index-room-i.is in
    let same : c.eq-right.result ≡ eq (get_or room i t.NONE) (due t.mark t.NONE c.args.to i) = rw (here, ← c.due.ensures) c.eq-right.ensures in
    every-next (λ k. eq (get_or room k t.NONE) (due t.mark t.NONE c.args.to k)) (length room) i c.loop-i.right _ c.loop-i.invariant _ (search rules) same

pub returns : goal.returns
returns g c =
    let t = g.T.Marking in
    let room = c.args.room.now in
    every-end (λ k. g.T.PartialEq.eq (get_or room k t.NONE) (due t.mark t.NONE c.args.to k)) (length room) c.loop-i.i c.loop-i.right _ c.loop-i.invariant (search rules)
