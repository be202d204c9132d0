-- `printing::write_refusal` meets its contract.
use Rattle.spelling.specs.Texts.{refusal_text}
use Rattle.printing.proofs.write_refusal.Goals as goal

pub returns : goal.returns
unfolding refusal_text
returns c = c.write_named.ensures
