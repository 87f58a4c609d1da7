-- `desk::Desk::mark` meets its contract. Assumes nothing.
use mathlib.Core.Path.{sym, ◌∙◌}
use Rattle.std.specs.Prelude.{Ok, Err}
use Rattle.desk.proofs.DeskLaws.{mark_answered}
use Rattle.desk.proofs.Desk.mark.Goals as goal

pub returns-in-Ok : goal.returns-in-Ok
returns-in-Ok c = mark_answered _ _ (Ok c.in-Ok.marked) (sym c.in-Ok.is ∙ c.marked.ensures)

pub returns-in-Err : goal.returns-in-Err
returns-in-Err c = mark_answered _ _ (Err c.in-Err.refusal) (sym c.in-Err.is ∙ c.marked.ensures)
