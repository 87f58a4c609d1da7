use Rattle.lines.specs.DeskLines.{mark_line}
use Rattle.lines.proofs.Numbered.{line-refusal}
use Rattle.session.proofs.Session.{mark-runs}
use Rattle.session.proofs.run_mark.Goals as goal

pub returns : goal.returns
returns c = mark-runs _ _ _ _ _ _ c.mark-after.ensures (line-refusal mark_line _ _ _ _ c.mark_line.ensures)
