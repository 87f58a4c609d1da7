use Rattle.orders.specs.Arrays.{heights_of}
use Rattle.optimum.specs.Table.{Taking}
use Rattle.optimum.proofs.recovery.flag_down.Given as goal

abbrev pub invariant-loop-i : goal.invariant-loop-i
invariant-loop-i l = Taking (heights_of l.points.cells) l.fn.slab l.k l.i l.initial.flags l.flags
