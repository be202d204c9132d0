-- `say` of `list::ByEngine` meets its contract: what the engine makes is printed.
use Rattle.list.proofs.Answering.{shown}
use Rattle.list.proofs.ByEngineProgram.say.Goals as goal

pub returns-in-Ok : goal.returns-in-Ok
returns-in-Ok g c = rw (shown _ _ _ _ _ c.in-Ok.ensures) c.print.ensures
