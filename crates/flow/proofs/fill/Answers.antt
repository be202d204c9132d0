use Rattle.flow.proofs.Coming.{behind, waiting}
use Rattle.flow.proofs.fill.Goals as goal

pub returns-clause-came : goal.returns-clause-came
returns-clause-came g c =
    let more = c.in_ok-read_up.ensures in
    waiting _ _ _ _ _ (behind _ _ _ c.shift.new.input c.read_up.new.input more.ok.0 c.shift.ensures more.front) more.came
