-- `lines::mark_line` meets its contract. Assumes nothing.
use Rattle.std.specs.Prelude.{Ok, Err}
use Rattle.std.proofs.Common.{rules, arith}
use Rattle.lines.proofs.Writing.{prints-looser}
use Rattle.lines.proofs.mark_line.Goals as goal

pub returns-in-Ok : goal.returns-in-Ok
returns-in-Ok g c = (Ok c.in-Ok.field-0, search rules, search rules)

pub returns-in-Err : goal.returns-in-Err
returns-in-Err g c =
    let (k, turned, printed) = c.refused_line.ensures in (Err k, search rules, prints-looser (omega arith) printed)
