use Rattle.std.proofs.Common.{◌≡◌, ◌-◌, length}
use Rattle.optimum.specs.ByPosition.{CopiedTo}
use Rattle.optimum.proofs.lists.by_position.Given as goal

abbrev pub invariant-loop-i : goal.invariant-loop-i
invariant-loop-i l = (length l.choice ≡ 32) × CopiedTo l.points.cells l.flags l.choice (l.i - 1)
