-- A value is worked out from those of smaller slabs. Assumes nothing.
use Rattle.std.proofs.Common.{◌+◌, ◌-◌, ◌*◌}
use Rattle.orders.specs.Arrays.{heights_of}
use Rattle.optimum.specs.Table.{Running, Kept}
use Rattle.optimum.proofs.values.+entry_outside_value_step_value_of.Given as goal

abbrev pub decreases-entry : goal.decreases-entry
decreases-entry l = (l.slab.upper - l.slab.lower) * 4 + 2

abbrev pub decreases-outside_value : goal.decreases-outside_value
decreases-outside_value l = (l.slab.upper - l.slab.lower) * 4

abbrev pub decreases-step : goal.decreases-step
decreases-step l = (l.slab.upper - l.slab.lower) * 4 + 1

abbrev pub decreases-value_of : goal.decreases-value_of
decreases-value_of l = (l.slab.upper - l.slab.lower) * 4 + 3

abbrev pub invariant-entry-loop-t : goal.invariant-entry-loop-t
invariant-entry-loop-t l = Running (heights_of l.points.cells) l.slab l.t l.run × Kept l.points.cells l.initial.table l.table
