-- `flush::attempt` meets its contract: the rooms hold the run's block, the budget is the run's, and what is written is the resynthesis, with its line.
use Rattle.std.proofs.Common.{ap}
use Rattle.rules.specs.Budget.{Budget}
use Rattle.rules.specs.Synth.{resynthesis}
use Rattle.rules.specs.Pass.{writer_of}
use Rattle.flush.proofs.Cutting.{asked, attempted, made-fits}
use Rattle.flush.proofs.attempt.Goals as goal

pub synthesize-p-requires : goal.synthesize-p-requires
synthesize-p-requires c = let a = asked c.requires c.count_two.ensures in record { rooms = rw (ap (λ (b : Budget). b.max_all) c.new-b.ensures) a.0; ready = rw c.new-b.ensures a.1 }

pub mark-requires : goal.mark-requires
mark-requires c w = made-fits _ _ _ _ c.synthesize-p.result c.synthesize-p.ensures w

pub returns : goal.returns
unfolding writer_of
returns c = c.mark.ensures resynthesis (attempted c.requires c.count_two.ensures c.synthesize-p.result (rw c.new-b.ensures at c.synthesize-p.ensures))
