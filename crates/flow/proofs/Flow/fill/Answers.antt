use Rattle.flow.proofs.Coming.{behind, waiting}
use Rattle.flow.proofs.Flow.fill.Goals as goal

pub returns-clause-came : goal.returns-clause-came
returns-clause-came g c =
    let s = c.shift.ensures in
    let more = c.in_ok-self.ensures in
    rw (s.1, ← s.0) (waiting _ _ _ _ _ (behind c.shift.new.self.end c.in_ok-self.field-0 _ c.shift.new.self.bytes c.read_up.new.input more.ok.0 s.3 more.front) more.came)
