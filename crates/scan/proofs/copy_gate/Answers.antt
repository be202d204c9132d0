-- `scan::copy_gate` meets its contract: the part of the output behind the first m gates is the list's part.
use mathlib.Core.Path.{◌≡◌, refl, ap, ◌∙◌}
use mathlib.Core.List.{[], ◌∷◌}
use Prim.Native.Nat.{suc, ◌+◌, ◌-◌, ◌*◌}
use native.Mathlib.Omega.{arith}
use lib.ListN.{take}
use Rattle.rules.specs.Limits.{width}
use Rattle.rules.specs.Numbers.{gate_at, numbers_of}
use Rattle.scan.proofs.Writing.{part-one, put-behind}
use Rattle.scan.proofs.copy_gate.Goals as goal

pub returns : goal.returns
unfolding numbers_of
returns c =
    let a = c.args in
    let k = c.requires in
    let e : a.m + 1 ≡ suc a.m = omega arith in
    rw (← e) (put-behind a.m 1 (width * a.m + width - width * a.m) a.out.now c.copy_from_slice.new.self (gate_at a.list.now a.i ∷ []) (omega (arith, k.behind, k.inside, k.fits)) refl
    (ap (take (width * 1)) c.copy_from_slice.ensures.after ∙ part-one a.list.now k.exact a.i k.inside))
