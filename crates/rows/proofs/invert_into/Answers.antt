use mathlib.Core.Path.{◌≡◌, sym, ap, ◌∙◌}
use mathlib.Core.Option.{some}
use Prim.Native.Nat.{ℕ, ◌<◌, ◌-◌}
use native.Mathlib.Omega.{arith}
use lib.ListN.{length}
use Rattle.rules.specs.Close.{first_with, units}
use Rattle.rules.proofs.Closing.{first-is}
use Rattle.rows.specs.Rows.{rows_of, given}
use Rattle.rows.proofs.Room.{row_count, row_swap}
use Rattle.rows.proofs.Rounds.{invert-start, invert-end, invert-stop, invert-next}
use Rattle.rows.proofs.invert_into.Goals as goal
use Rattle.rows.proofs.invert_into.Goals.{In-Some}

-- both matrices have as many rows as at the start
same_rows : (c : In-Some) → length (rows_of c.loop-column.a) ≡ length (rows_of c.args.a.now)
same_rows c = omega (arith, row_count c.args.a.now, row_count c.loop-column.a)

-- the pivot is found, and is a row
pivot : (c : In-Some)
    → let l = c.loop-column in let n = length (rows_of c.args.a.now) in
    (first_with l.column (n - l.column) l.column (rows_of l.a) ≡ some c.in-Some.pivot) × (c.in-Some.pivot < length c.args.a.now)
pivot c =
    let l = c.loop-column in
    let n = length (rows_of c.args.a.now) in
    let e : first_with l.column (n - l.column) l.column (rows_of l.a) ≡ some c.in-Some.pivot = rw (← same_rows c) (sym c.in-Some.ensures) in
    (e, omega (arith, (first-is l.column _ l.column (rows_of l.a) _ e).1, row_count c.args.a.now))

pub loop-column-init : goal.loop-column-init
loop-column-init c =
    let s = c.args in
    let e : length (rows_of s.inv.now) ≡ length (rows_of s.a.now) = omega (arith, row_count s.a.now, row_count s.inv.now) in
    invert-start _ _ (c.set_units.ensures ∙ ap (λ (k : ℕ). units k 0) e)

pub returns-in_default : goal.returns-in_default
unfolding given
returns-in_default c =
    let l = c.loop-column in
    let a = c.args.a.now in
    let e : length (rows_of l.a) ≡ length (rows_of a) = omega (arith, row_count a, row_count l.a) in
    sym (l.invariant ∙ invert-stop _ _ _ _ (omega (arith, row_count a)) (rw (← e) (sym c.in_default.ensures)))

pub swap-requires-clause-b_in_bounds : goal.swap-requires-clause-b_in_bounds
swap-requires-clause-b_in_bounds c = omega (arith, (pivot (goal.at.swap-requires-clause-b_in_bounds c).In-Some).1)

pub swap-requires-in-loop-column-clause-b_in_bounds : goal.swap-requires-in-loop-column-clause-b_in_bounds
swap-requires-in-loop-column-clause-b_in_bounds c = omega (arith, (pivot (goal.at.swap-requires-in-loop-column-clause-b_in_bounds c).In-Some).1)

pub loop-column-preserved : goal.loop-column-preserved
loop-column-preserved c =
    let l = c.loop-column in
    let h = goal.at.loop-column-preserved c in
    let p = pivot h.In-Some in
    let a = c.swap in
    let b = c.swap-in-loop-column in
    let k : length (rows_of a.new.self) ≡ length (rows_of c.args.a.now) = omega (arith, row_count a.new.self, row_count c.args.a.now, p.1) in
    l.invariant ∙ invert-next _ _ _ _ _ _ _ _ _ (omega (arith, row_count c.args.a.now)) k p.0
    (ap rows_of a.ensures.after ∙ row_swap l.a l.column c.in-Some.pivot (omega arith) (omega (arith, p.1)))
    (ap rows_of b.ensures.after ∙ row_swap l.inv l.column c.in-Some.pivot (omega arith) (omega (arith, p.1)))
    c.clear_column.ensures

pub returns : goal.returns
unfolding given
returns c = sym (c.loop-column.invariant ∙ invert-end _ _ _ _ (omega (arith, row_count c.args.a.now)))
