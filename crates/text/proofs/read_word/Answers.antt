-- `text::read_word` meets its contract.
use Rattle.text.proofs.Readings.{reads_word}
use Rattle.text.proofs.read_word.Goals as goal

pub returns : goal.returns
returns c = reads_word c.args.w.now c.args.text.now c.strip_prefix.result c.strip_prefix.ensures.cases
