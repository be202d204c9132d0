-- `qasm::read_gate` meets its contract: the two first bytes tell the code.
use mathlib.Core.Path.{◌≡◌, refl}
use Prim.Native.Nat.{◌+◌}
use Rattle.qasm.proofs.Guesses.{guess, any-as}
use Rattle.qasm.proofs.read_gate.Goals as goal

pub returns : goal.returns
returns c =
    let told : c.first_part.result + c.second_part.result ≡ guess c.args.text.now = rw (c.first_part.ensures.value, c.byte_at.ensures, c.second_part.ensures.value, c.byte_at-2.ensures) refl in
    rw (any-as c.args.text.now) (rw told at c.read_as.ensures)
