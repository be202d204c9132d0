-- `trace::write_piece` meets its contract: its one piece is kept or was written again.
use native.Mathlib.Omega.{arith}
use Rattle.trace.proofs.Tracing.{kept-text, again-text, again-few}
use Rattle.trace.proofs.write_piece.Goals as goal

pub write_origins-requires : goal.write_origins-requires
write_origins-requires c = omega (arith, c.requires.width_in_bounds, again-few _ _ _ _ c.in-Ok.ensures.made c.requires.right.0.exact)

pub returns-then-c-gt0 : goal.returns-then-c-gt0
returns-then-c-gt0 c =
    let made = c.in-Ok.ensures.made in
    let few = again-few _ _ _ _ made c.requires.right.0.exact in
    let wrote = rw (c.line.ensures.0, c.last_line.ensures) at c.write_origins.ensures in
    rw (← again-text _ _ _ _ made c.requires.right.1 c.if-c-gt0.true) (record { writes = wrote.writes; short = omega (arith, wrote.short, few) })

pub returns-else-c-gt0 : goal.returns-else-c-gt0
returns-else-c-gt0 c = rw (← kept-text _ _ _ _ c.in-Ok.ensures.made c.requires.right.1 c.requires.right.0 (omega (arith, c.if-c-gt0.false))) c.write_origins-else-c-gt0.ensures
