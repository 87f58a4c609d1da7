use Rattle.recurrence.specs.Comparisons.{overlaps_above}
use Rattle.orders.specs.Arrays.{heights_of}
use Rattle.optimum.specs.Limits.{AtLeast}
use Rattle.optimum.proofs.limits.high.Given as goal

abbrev pub invariant-loop-j : goal.invariant-loop-j
invariant-loop-j l = AtLeast (overlaps_above (heights_of l.heights) l.i) (heights_of l.heights).n l.j
