use mathlib.Core.Path.{ap, ◌∙◌}
use mathlib.Core.Bool.{Bool, ◌&&◌}
use native.Mathlib.Omega.{arith}
use Rattle.rules.specs.Bit.{bit}
use Rattle.parity.specs.View.{val}
use Rattle.terms.proofs.Room.{room-length}
use Rattle.column.proofs.Scanning.{any_none, any_next, any-end}
use Rattle.column.proofs.seen.Goals as goal

pub loop-i-init : goal.loop-i-init
loop-i-init c = λ j. any_none _ _ _ c.zero-met.ensures

pub get-requires : goal.get-requires
get-requires c = omega (arith, room-length c.args.set.now)

pub loop-i-preserved : goal.loop-i-preserved
loop-i-preserved c =
    let l = c.loop-i in
    let n = room-length c.args.set.now in
    λ j. any_next _ _ _ _ c.get.ensures (omega arith) _ _ (l.invariant j) (c.bitor-met.ensures j)

pub returns : goal.returns
returns c =
    let l = c.loop-i in
    let n = room-length c.args.set.now in
    λ j. c.bitand.ensures j ∙ ap (λ (b : Bool). bit (val c.args.cands) j && b) (any-end _ _ l.i _ (l.invariant j) (omega arith))
