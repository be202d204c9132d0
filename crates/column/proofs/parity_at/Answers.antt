use mathlib.Core.Path.{sym, ◌∙◌}
use native.Mathlib.Omega.{arith}
use Rattle.terms.specs.Terms.{terms_of}
use Rattle.terms.proofs.Room.{room-length}
use Rattle.column.proofs.Scanning.{past_end}
use Rattle.column.proofs.parity_at.Goals as goal

pub get-requires : goal.get-requires
get-requires c = omega (arith, room-length c.args.set.now)

pub returns-else-i-set : goal.returns-else-i-set
returns-else-i-set c = c.zero.ensures ∙ sym (past_end (terms_of c.args.set.now) _ (omega (arith, room-length c.args.set.now)))
