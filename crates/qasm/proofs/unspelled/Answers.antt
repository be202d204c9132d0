-- `qasm::unspelled` meets its contract: the gates that are left come to what all of them do.
use mathlib.Core.Path.{sym, ◌∙◌}
use mathlib.Core.List.{List}
use native.Mathlib.Omega.{arith}
use native.Mathlib.Nat.{add-zero}
use borrow.Author.Rules.{rules}
use Prim.Native.Nat.{◌*◌, ◌/◌}
use lib.IntN.{ℤ}
use lib.ListN.{length}
use Rattle.rules.specs.Limits.{width}
use Rattle.qasm.specs.Export.{unspelled}
use Rattle.qasm.proofs.Gates.{unspelled-stop, unspelled-more, unspelled-end}
use Rattle.qasm.proofs.unspelled.Goals as goal

pub returns-then-not-is_spelled-clause-index : goal.returns-then-not-is_spelled-clause-index
unfolding unspelled
returns-then-not-is_spelled-clause-index c =
    let ns : List ℤ = c.args.numbers.now in
    let i = c.loop-i.i in
    sym (unspelled-stop ns (length ns / width) i (omega arith) (rw (add-zero (width * i)) (search rules))) ∙ c.loop-i.invariant

pub loop-i-preserved : goal.loop-i-preserved
loop-i-preserved c =
    let ns : List ℤ = c.args.numbers.now in
    let i = c.loop-i.i in
    sym (unspelled-more ns (length ns / width) i (omega arith) (rw (add-zero (width * i)) (search rules))) ∙ c.loop-i.invariant

pub returns-clause-index : goal.returns-clause-index
unfolding unspelled
returns-clause-index c =
    let ns : List ℤ = c.args.numbers.now in
    sym (unspelled-end ns (length ns / width) c.loop-i.i (omega arith) (omega arith)) ∙ c.loop-i.invariant
