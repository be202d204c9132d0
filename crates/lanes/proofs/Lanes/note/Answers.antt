-- `Lanes::note` meets its contract.
use Rattle.std.proofs.Common.{◌∙◌, Bool, ℕ, ap, arith}
use Rattle.rules.specs.Bit.{xor}
use Rattle.rules.specs.Meaning.{when1}
use Rattle.parity.specs.View.{val}
use Rattle.rows.proofs.Room.{row_count}
use Rattle.lanes.proofs.Noting.{noted}
use Rattle.lanes.proofs.Lanes.note.Goals as goal

pub returns : goal.returns
returns c =
    noted c.args.i (val c.args.p) c.args.k c.args.self.now _ c.kept-turn.result (val c.kept-one.result) (val c.kept-two.result) (val c.bitand.result) (val c.beside.result)
    (c.kept-turn.ensures ∙ ap (λ (b : Bool). when1 b c.args.k) c.has.ensures) c.kept-one.ensures c.kept-two.ensures c.fold-self.ensures c.bitxor-self-2.ensures c.bitand.ensures
    (c.bitxor-self.ensures ∙ ap (λ (z : ℕ). xor z (val c.kept-two.result)) c.bitxor.ensures) c.beside.ensures (row_count c.args.self.now.odds ∙ omega arith) c.add_to_rows.ensures
