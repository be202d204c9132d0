-- `parity::Parity::bitor` meets its contract.
use mathlib.Core.Path.{sym, ap, ◌∙◌}
use Prim.Native.Nat.{ℕ}
use borrow.Author.Rules.{rules}
use lib.Bits.{or_block}
use Rattle.rules.specs.Bit.{bit}
use Rattle.parity.specs.View.{val}
use Rattle.parity.proofs.Laws.{bit-or}
use Rattle.parity.proofs.ParityBitOr.bitor.Goals as goal

pub returns : goal.returns
returns c = λ i.
    let s = c.args in
    ap (λ (x : ℕ). bit x i) (sym (or_block 64 s.self.hi s.other.hi s.self.lo s.other.lo (search rules) (search rules)))
    ∙ bit-or (val s.self) (val s.other) i
