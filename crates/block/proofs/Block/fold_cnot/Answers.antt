-- `Block::fold_cnot` meets its contract: the row and the constant of the control go to the target.
use Rattle.std.proofs.Common.{refl, ap, ap₂, ◌∙◌, ◌≤◌, Bool, cond, ℕ, length, arith}
use Rattle.rules.specs.Bit.{xor}
use Rattle.parity.specs.View.{val}
use Rattle.rows.specs.Rows.{rows_of}
use Rattle.rows.proofs.Room.{row_count}
use Rattle.block.proofs.Parts.{part-add, part-rest}
use Rattle.block.proofs.Block.fold_cnot.Goals as goal

pub returns : goal.returns
returns c =
    let b = c.args.self.now in
    let many : b.wires ≤ length (rows_of b.rows) = rw (row_count b.rows) (omega arith) in
    let a = c.add in
    record {
      flips = record {
        wires = refl;
        flips = c.bitxor-self.ensures ∙ ap (xor (val b.flips)) (c.kept.ensures ∙ ap₂ (λ (q : Bool) (m : ℕ). cond q m 0) c.has.ensures c.single.ensures);
        terms = refl;
        names = refl;
      };
      held = part-add b.wires b.rows a.new.m many a.auto.m _ _ c.requires.c_lt_wires.0 c.requires.c_lt_wires.1 a.ensures;
      rest = part-rest b.wires b.rows a.new.m many a.auto.m;
    }
