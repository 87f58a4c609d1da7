use Rattle.orders.specs.Arrays.{heights_of}
use Rattle.optimum.specs.Conflicts.{Climbing}
use Rattle.optimum.proofs.values.unreached.Given as goal

abbrev pub invariant-loop-y : goal.invariant-loop-y
invariant-loop-y l = Climbing (heights_of l.points.cells) l.p l.b l.y
