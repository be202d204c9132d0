use mathlib.Core.Path.{◌∙◌}
use Rattle.rows.proofs.Rounds.{rows_same}
use Rattle.rows.proofs.equal.Goals as goal

pub returns : goal.returns
returns c = c.eq.ensures ∙ rows_same _ _
