-- `desk::Desk::load_with` meets its contract. Assumes nothing.
use Rattle.desk.proofs.Laws.{load_accepted, load_not}
use Rattle.desk.proofs.Desk.load_with.Goals as goal

pub returns-in-Ok : goal.returns-in-Ok
returns-in-Ok c = load_accepted _ _ _ _ _ _ c.of.ensures.held c.of.ensures.workspace _ c.in-Ok.is

pub returns-in-Err : goal.returns-in-Err
returns-in-Err c = load_not _ _ _ _ _ _ c.of.ensures.held c.of.ensures.workspace _ c.in-Err.is
