use Rattle.std.proofs.Common.{◌+◌, ◌≤◌}
use Rattle.orders.specs.Arrays.{heights_of, position_at}
use Rattle.optimum.specs.Split.{flagged, outside_down, outside_positions, Listed}
use Rattle.optimum.proofs.lists.list_outside.Given as goal

abbrev pub invariant-loop-i : goal.invariant-loop-i
invariant-loop-i l =
    (l.outside.count + l.i ≤ (heights_of l.points.cells).n)
    × Listed (outside_positions l.points.cells l.choice) (outside_down (flagged l.choice) (position_at l.points.cells) l.i) l.outside
