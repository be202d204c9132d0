-- `Lanes::none` meets its contract.
use Rattle.std.proofs.Common.{◌≡◌, ◌∙◌, ℕ, zero, suc, refl, get_or, replicate}
use Rattle.parity.specs.View.{val, none}
use Rattle.parity.specs.declared.Parity.{Parity}
use Rattle.rows.proofs.Room.{row_get}
use Rattle.lanes.proofs.Lanes.none.Goals as goal

-- a row of nothing but the parity p, which is none
still : (p : Parity) → val p ≡ 0 → (m j : ℕ) → val (get_or (replicate m p) j none) ≡ 0
still p e zero j = refl
still p e (suc m) zero = e
still p e (suc m) (suc j) = still p e m j

pub returns : goal.returns
returns c = record {
  turn = refl;
  low = c.zero.ensures;
  high = c.zero-2.ensures;
  rows = λ j. row_get (replicate 64 c.zero-3.result) j ∙ still c.zero-3.result c.zero-3.ensures 64 j;
}
