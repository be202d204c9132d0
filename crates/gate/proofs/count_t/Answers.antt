-- `gate::count_t` meets its contract.
use mathlib.Core.Path.{◌≡◌, ap, ◌∙◌}
use Prim.Native.Nat.{ℕ, ◌+◌, ◌*◌, ◌/◌}
use native.Mathlib.Nat.{sub-zero, zero-add}
use native.Mathlib.Omega.{arith}
use lib.IntN.{pos}
use lib.ListN.{length, get_or}
use mir.Syntax.{w32}
use mir.ValLaws.{to_z-of_z}
use Rattle.rules.specs.Limits.{width}
use Rattle.rules.specs.Numbers.{nat_of, field, gate_at, gates_from, gates_of}
use Rattle.rules.specs.Counts.{spends, ts}
use Rattle.rules.proofs.Flags.{byte_le}
use Rattle.gate.proofs.Tests.{code_at}
use Rattle.gate.proofs.Tally.{tallies-ts, tally-more, tally-none}
use Rattle.gate.proofs.count_t.Goals as goal

pub loop-i-init : goal.loop-i-init
unfolding gates_of
loop-i-init c =
    let l = c.args.list.now in
    (omega arith, zero-add _ ∙ ap (λ (k : ℕ). ts (gates_from l k 0)) (sub-zero (length l / width)))

pub loop-i-preserved : goal.loop-i-preserved
unfolding gate_at
loop-i-preserved c =
    let l = c.args.list.now in
    let at = c.loop-i in
    let code = to_z-of_z w32 (get_or l (6 * at.i) (pos 0)) (search) in
    let turn = to_z-of_z w32 (get_or l (6 * at.i + 4) (pos 0)) (search) in
    let e = ap nat_of (code ∙ code_at l at.i) in
    let z : c.spent.result ≡ spends (nat_of (field l at.i 0)) (field l at.i 4) = cc (e, turn, c.nat.ensures, c.spent.ensures) in
    let m = tally-more tallies-ts l (length l / width) at.i (omega arith) in
    (omega (arith, byte_le c.spent.result, c.from-sum.ensures), rw c.from-sum.ensures (rw z (omega (arith, m, at.invariant.1))))

pub returns : goal.returns
returns c =
    let l = c.args.list.now in
    omega (arith, tally-none tallies-ts l (length l / width) c.loop-i.i (omega arith), c.loop-i.invariant.1)
