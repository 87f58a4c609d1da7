-- `optimum::values::joined` meets its contract, by cases. Assumes nothing.
use Rattle.std.proofs.Common.{arith}
use Rattle.recurrence.proofs.Joins.{joins-low, joins-high, joins-both}
use Rattle.optimum.proofs.values.joined.Goals as goal
use Rattle.optimum.proofs.values.joined.Goals.{then-x-eq0-via-then-x-eq0, then-x-eq0-via-else-x-eq0+then-y-eq0}

pub returns-then-x-eq0 : goal.returns-then-x-eq0
returns-then-x-eq0 c =
    elim c.then-x-eq0.branch [
      | then-x-eq0-via-then-x-eq0 w ↦ joins-low _ _ _ w.if-x-eq0.true
      | then-x-eq0-via-else-x-eq0+then-y-eq0 w ↦ joins-high _ _ _ w.if-y-eq0.true
    ]

pub returns : goal.returns
returns c = joins-both _ _ _ (omega arith) c.if-x-eq0.false c.if-y-eq0.false
