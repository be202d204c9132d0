-- `column_main::by_code` is safe: where three numbers stand there is a term.
use Rattle.std.proofs.Common.{arith}
use Rattle.terms.proofs.Room.{room-length}
use Rattle.column_main.proofs.by_code.Goals as goal

pub best_column-requires : goal.best_column-requires
best_column-requires c = omega (arith, room-length c.args.terms.now)
