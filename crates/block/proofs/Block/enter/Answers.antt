-- `Block::enter` meets its contract.
use Rattle.std.proofs.Common.{refl, sym, ap, ◌∙◌}
use native.Mathlib.Nat.{le_refl}
use Rattle.join.specs.Tables.{number_of}
use Rattle.block.proofs.Entering.{enter-old}
use Rattle.block.proofs.Block.enter.Goals as goal

pub returns-in-Some : goal.returns-in-Some
returns-in-Some c =
    let e = sym c.place_of.ensures ∙ ap number_of c.in-Some.is in
    let k = c.requires.rowed.joins.back _ _ e in
    record {
      joined = enter-old c.requires.rowed _ _ e;
      terms = refl;
      more = le_refl _;
      kept = λ i l. refl;
      at = k.0;
      name = k.1;
      behind = record { names-rest = refl; rows-rest = refl };
    }
