use mathlib.Core.Path.{◌∙◌}
use native.Mathlib.Omega.{arith}
use Rattle.terms.specs.Terms.{terms_of}
use Rattle.terms.proofs.Room.{room-length}
use Rattle.column.proofs.Marking.{mark-none, mark-next, agreed-is, nearly-is, one-agreed, one-nearly}
use Rattle.column.proofs.survey.Goals as goal

pub returns-then-count-eq1 : goal.returns-then-count-eq1
returns-then-count-eq1 c = let e = room-length c.args.set.now ∙ c.if-count-eq1.true in (one-agreed _ _ e, one-nearly _ _ e)

pub loop-i-init : goal.loop-i-init
loop-i-init c = λ j. mark-none _ _ _ _ c.zero-some.ensures c.zero-two.ensures

pub get-requires : goal.get-requires
get-requires c = omega (arith, room-length c.args.set.now)

pub loop-i-preserved : goal.loop-i-preserved
loop-i-preserved c =
    let l = c.loop-i in
    let n = room-length c.args.set.now in
    λ j. mark-next _ _ (terms_of c.args.set.now) l.i _ c.get.ensures (omega arith) _ _ _ _ _ _ _ _ _ _ (l.invariant j)
    (c.bitand.ensures j) (c.bitor-two.ensures j) (c.bitor-some.ensures j) (c.bitand-in-loop-i.ensures j) (c.bitor-most.ensures j) (c.bitand-every.ensures j)

pub returns : goal.returns
returns c =
    let l = c.loop-i in
    let n = room-length c.args.set.now in (
      agreed-is _ _ _ _ _ _ l.i _ _ _ (omega arith) l.invariant c.bitand-2.ensures c.bitxor.ensures c.bitor-whole.ensures,
      nearly-is _ _ _ _ _ _ l.i _ _ _ _ (omega arith) l.invariant c.bitxor-2.ensures c.bitxor-3.ensures c.bitand-3.ensures c.bitor-near.ensures,
    )
