use mathlib.Core.Path.{◌≡◌, refl, sym, ◌∙◌}
use mathlib.Core.Bool.{cond}
use Prim.Native.Nat.{ℕ}
use native.Mathlib.Omega.{arith}
use lib.ListN.{get_or}
use Rattle.rules.specs.Bit.{bit}
use Rattle.parity.proofs.Tables.{table-picks}
use Rattle.rows.specs.Rows.{rows_of, other_has}
use Rattle.rows.proofs.Room.{row_get}
use Rattle.rows.proofs.Rounds.{pivot-stays, clear_next, clear-end, another}
use Rattle.rows.proofs.clear_rows.Goals as goal

pub loop-r-preserved : goal.loop-r-preserved
loop-r-preserved c =
    let l = c.loop-r in
    let s = c.args in
    let row : ℕ = get_or (rows_of l.a) l.r 0 in
    let keep : bit row s.column ≡ other_has s.column l.r row = another s.column l.r row s.from s.to (omega arith) (omega arith) c.requires.from_le_to.1.1 in
    let d : c.digit-digit.result ≡ cond (bit row s.column) 1 0 = rw (row_get l.a l.r) c.digit-digit.ensures.0 in
    let p = table-picks (bit row s.column) c.digit-digit.result d l.invariant.pivot in
    let q = table-picks (bit row s.column) c.digit-digit.result d l.invariant.follow in
    record {
      pivot = rw (c.add_picked.ensures, p, pivot-stays _ s.column l.r _ _ (rows_of l.a) keep) l.invariant.pivot;
      follow = rw (c.add_picked-in-loop-r.ensures, q, pivot-stays _ s.column l.r _ _ (rows_of l.inv) keep) l.invariant.follow;
      rest = rw (c.add_picked.ensures, c.add_picked-in-loop-r.ensures, p, q) (l.invariant.rest ∙ clear_next _ _ _ _ _ _ _ _ (omega arith) refl refl keep);
    }

pub returns : goal.returns
returns c = sym (c.loop-r.invariant.rest ∙ clear-end _ _ _ _ _ (omega arith))
