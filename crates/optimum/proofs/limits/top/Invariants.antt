use Rattle.std.proofs.Common.{◌-◌}
use Rattle.recurrence.specs.Recurrence.{reaches_over}
use Rattle.orders.specs.Arrays.{heights_of}
use Rattle.optimum.specs.Limits.{AtMost}
use Rattle.optimum.proofs.limits.top.Given as goal

abbrev pub invariant-loop-j : goal.invariant-loop-j
invariant-loop-j l = AtMost (reaches_over (heights_of l.heights) l.i) (heights_of l.heights).n (l.j - 1)
