-- `gate::write` meets its contract.
use mathlib.Core.Path.{◌≡◌, sym, ap, ◌∙◌}
use mathlib.Core.List.{List, ◌++◌, append_assoc}
use Prim.Native.Nat.{ℕ, ◌+◌, ◌*◌, ◌-◌}
use native.Mathlib.Omega.{arith}
use Rattle.std.proofs.lemmas.List.{drop-drop}
use lib.IntN.{ℤ, pos}
use lib.ListN.{length, take, drop, length-drop}
use lib.Seq.{length-take-le}
use mir.Syntax.{w32}
use mir.Val.{to_z}
use Rattle.rules.specs.Numbers.{numbers}
use Rattle.gate.specs.Writing.{gate_of, placed}
use Rattle.gate.proofs.Tests.{stored}
use Rattle.gate.proofs.Placing.{six-set}
use Rattle.gate.proofs.write.Goals as goal

pub returns : goal.returns
unfolding placed
returns c =
    let s = c.args in
    let g = s.g in
    let f = c.requires.small in
    let at = 6 * s.i in
    let row = take (at + 6 - at) (drop at s.out.now) in
    let k : at + (at + 6 - at) ≡ at + 6 = omega arith in
    let long : length row ≡ 6 = length-take-le (at + 6 - at) (drop at s.out.now) (omega (arith, length-drop at s.out.now)) ∙ omega arith in
    rw (six-set row (to_z w32 g.code) (to_z w32 g.first) (to_z w32 g.second) (to_z w32 g.third) (to_z w32 g.turn) (pos 0) long, stored g.code f.code, stored g.first f.first, stored g.second f.second, stored g.third f.third, stored g.turn (omega arith))
    (ap (λ (rest : List ℤ). take at s.out.now ++ (numbers (gate_of g) ++ rest)) (drop-drop (at + 6 - at) at s.out.now ∙ ap (λ (n : ℕ). drop n s.out.now) k) ∙ sym (append_assoc (take at s.out.now) (numbers (gate_of g)) (drop (at + 6) s.out.now)))
