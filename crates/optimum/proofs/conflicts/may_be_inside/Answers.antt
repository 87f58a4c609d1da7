-- `optimum::conflicts::may_be_inside` meets its contract: its tests are the recurrence's. Assumes nothing.
use Rattle.std.proofs.Common.{rules}
use Rattle.optimum.proofs.ConflictsLaws.{inside-tested}
use Rattle.optimum.proofs.conflicts.may_be_inside.Goals as goal

pub returns-then-slab-eq0 : goal.returns-then-slab-eq0
returns-then-slab-eq0 c = inside-tested c.args.points.now.packed.sorted c.requires _ (search rules)

pub returns-else-slab-eq0 : goal.returns-else-slab-eq0
returns-else-slab-eq0 c = inside-tested c.args.points.now.packed.sorted c.requires _ (search rules)

pub returns-else-ends_below : goal.returns-else-ends_below
returns-else-ends_below c = inside-tested c.args.points.now.packed.sorted c.requires _ (search rules)
