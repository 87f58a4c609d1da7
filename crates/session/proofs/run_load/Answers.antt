use Rattle.lines.specs.DeskLines.{load_line}
use Rattle.lines.proofs.Numbered.{line-refusal}
use Rattle.session.proofs.Session.{load-runs}
use Rattle.session.proofs.run_load.Goals as goal

pub returns : goal.returns
returns c =
    load-runs _ _ _ _ _ _ _ _ c.load-after.ensures
    (line-refusal (λ a. load_line a c.load-after.result.desk) _ _ _ _ c.load_line.ensures)
