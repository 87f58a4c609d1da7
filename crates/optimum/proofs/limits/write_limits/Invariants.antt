use Rattle.optimum.specs.Limits.{LimitedTo}
use Rattle.optimum.proofs.limits.write_limits.Given as goal

abbrev pub invariant-loop-k : goal.invariant-loop-k
invariant-loop-k l = LimitedTo l.initial.heights l.k l.heights
