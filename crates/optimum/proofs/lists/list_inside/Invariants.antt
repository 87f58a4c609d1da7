use Rattle.std.proofs.Common.{◌≡◌}
use Rattle.format.specs.Plate.{inside_below}
use Rattle.optimum.specs.Choosing.{listed}
use Rattle.optimum.specs.Split.{flagged}
use Rattle.optimum.proofs.lists.list_inside.Given as goal

abbrev pub invariant-loop-position : goal.invariant-loop-position
invariant-loop-position l = l.inside ≡ listed (inside_below (flagged l.choice) l.position)
