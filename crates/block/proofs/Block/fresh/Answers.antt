-- `Block::fresh` meets its contract.
use Rattle.std.proofs.Common.{◌≡◌, ◌∙◌, ◌+◌, ◌<◌, ℕ, List, refl, ap, get_or, set, drop, add-one, arith}
use lib.Seq.{get_or-set_same, get_or-set_other, drop-set-lt}
use Rattle.rules.specs.Limits.{max_columns}
use Rattle.rows.specs.Rows.{rows_of}
use Rattle.rows.proofs.Room.{row_put}
use Rattle.block.proofs.Entering.{enter-new, new-few}
use Rattle.block.proofs.Block.fresh.Goals as goal
use Rattle.block.proofs.Block.fresh.Goals.{Start}

few : (c : Start) → c.args.self.now.wires < max_columns
few c = new-few c.requires.enterable.rowed _ c.requires.q_value c.requires.enterable.few

pub enter-requires : goal.enter-requires
enter-requires c =
    record { joins = c.requires.enterable.rowed.joins; few = few (goal.at.enter-requires c).Start; inside = c.requires.enterable.inside; new = c.requires.q_value }

pub returns : goal.returns
returns c =
    let l = few (goal.at.returns c).Start in
    let n : ℕ = c.args.self.now.wires in
    let e = c.enter.ensures in
    record {
      joined = enter-new c.requires.enterable.rowed _ _ _ c.requires.q_value l e
          (row_put c.args.self.now.rows n c.single.result ∙ ap (set (rows_of c.args.self.now.rows) n) c.single.ensures) (add-one _) refl;
      terms = refl;
      more = omega arith;
      kept = λ i k. ap (λ (ns : List ℕ). get_or ns i 0) e.name ∙ get_or-set_other c.args.self.now.names n i c.args.q.0 0 (λ (z : i ≡ n). omega arith);
      at = omega arith;
      name = ap (λ (ns : List ℕ). get_or ns n 0) e.name ∙ get_or-set_same c.args.self.now.names n c.args.q.0 0 (omega (arith, l, c.requires.enterable.rowed.joins.room));
      behind = record {
        names-rest = ap (drop (n + 1)) e.name ∙ drop-set-lt (n + 1) c.args.self.now.names n c.args.q.0 (omega arith);
        rows-rest = drop-set-lt (n + 1) c.args.self.now.rows n c.single.result (omega arith);
      };
    }
