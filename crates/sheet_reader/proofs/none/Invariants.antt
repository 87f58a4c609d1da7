use Rattle.std.proofs.Common.{ℕ, ◌<◌, false, [], get_or}
use Rattle.std.specs.Fn.{FnReturnsAt}
use Rattle.sheet_reader.proofs.none.Given as goal

abbrev pub invariant-loop-point : goal.invariant-loop-point
invariant-loop-point g l = (k : ℕ) → k < l.point-index → FnReturnsAt g.F.Fn l.like (get_or l.points k []) false
