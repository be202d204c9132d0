-- `parity::Parity::bitand` meets its contract.
use mathlib.Core.Path.{sym, ap, ◌∙◌}
use Prim.Native.Nat.{ℕ}
use borrow.Author.Rules.{rules}
use lib.Bits.{and_block}
use Rattle.rules.specs.Bit.{bit}
use Rattle.parity.specs.View.{val}
use Rattle.parity.proofs.Laws.{bit-and}
use Rattle.parity.proofs.ParityBitAnd.bitand.Goals as goal

pub returns : goal.returns
returns c = λ i.
    let s = c.args in
    ap (λ (x : ℕ). bit x i) (sym (and_block 64 s.self.hi s.other.hi s.self.lo s.other.lo (search rules) (search rules)))
    ∙ bit-and (val s.self) (val s.other) i
