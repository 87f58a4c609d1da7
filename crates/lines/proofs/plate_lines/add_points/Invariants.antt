use Rattle.lines.specs.Rooms.{points_room}
use Rattle.lines.specs.Listing.{point_lines}
use Rattle.lines.specs.Writing.{Added}
use Rattle.lines.proofs.plate_lines.add_points.Given as goal

abbrev pub invariant-loop-position : goal.invariant-loop-position
invariant-loop-position l = Added (points_room l.position) (point_lines l.plate l.position) l.initial.text l.text
