-- A slab is recovered from its parts, which are smaller. Assumes nothing.
use Rattle.std.proofs.Common.{◌+◌, ◌-◌, ◌*◌}
use Rattle.optimum.proofs.recovery.+cut_slab.Given as goal

abbrev pub decreases-cut : goal.decreases-cut
decreases-cut l = (l.whole.upper - l.whole.lower) * 2

abbrev pub decreases-slab : goal.decreases-slab
decreases-slab l = (l.whole.upper - l.whole.lower) * 2 + 1
