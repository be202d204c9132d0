use mathlib.Core.Path.{sym, ap, ap₂, ◌∙◌}
use mathlib.Core.Bool.{Bool, cond}
use Prim.Native.Nat.{◌+◌}
use native.Mathlib.Omega.{arith}
use Rattle.rules.specs.Fold.{Term}
use Rattle.rules.proofs.Flags.{byte-cond, byte_le}
use Rattle.terms.specs.Terms.{terms_of}
use Rattle.terms.proofs.Room.{room-length}
use Rattle.column.proofs.Scanning.{with_none, with-next, with-end, with-le}
use Rattle.column.proofs.count_ones.Goals as goal

pub loop-i-init : goal.loop-i-init
loop-i-init c = sym (with_none _ (terms_of c.args.set.now))

pub get-requires : goal.get-requires
get-requires c = omega (arith, room-length c.args.set.now)

pub overflow_add-sum : goal.overflow_add-sum
overflow_add-sum c = omega (arith, byte_le c.has.result, (with-le c.args.column (terms_of c.args.set.now) c.loop-i.i).1)

pub loop-i-preserved : goal.loop-i-preserved
loop-i-preserved c =
    let l = c.loop-i in
    let one = byte-cond c.has.result ∙ ap (λ (b : Bool). cond b 1 0) c.has.ensures in
    ap₂ ◌+◌ l.invariant one ∙ sym (with-next _ (terms_of c.args.set.now) l.i _ (ap (λ (t : Term). t.parity) c.get.ensures))

pub returns : goal.returns
returns c =
    let n = room-length c.args.set.now in
    c.loop-i.invariant ∙ with-end _ (terms_of c.args.set.now) c.loop-i.i (omega arith)
