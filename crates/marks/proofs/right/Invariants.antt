-- What was found so far, and that the places from `i` on have what is due.
use Rattle.std.proofs.Common.{◌≡◌, ◌-◌, ◌&&◌, length, get_or}
use Rattle.marks.specs.Marks.{due, every, right}
use Rattle.marks.proofs.right.Given as goal

abbrev pub invariant-loop-i : goal.invariant-loop-i
invariant-loop-i g l =
    let t = g.T.Marking in
    let eq = g.T.PartialEq.eq in
    (l.right && every (λ k. eq (get_or l.room k t.NONE) (due t.mark t.NONE l.to k)) (length l.room - l.i) l.i) ≡ right eq t.mark t.NONE l.room l.from l.to
