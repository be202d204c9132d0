-- `parity::Parity::bitxor` meets its contract.
use mathlib.Core.Path.{sym}
use borrow.Author.Rules.{rules}
use lib.Bits.{xor_block}
use Rattle.rules.specs.Bit.{xor}
use Rattle.parity.proofs.ParityBitXor.bitxor.Goals as goal

pub returns : goal.returns
unfolding xor
returns c =
    let s = c.args in
    sym (xor_block 64 s.self.hi s.other.hi s.self.lo s.other.lo (search rules) (search rules))
