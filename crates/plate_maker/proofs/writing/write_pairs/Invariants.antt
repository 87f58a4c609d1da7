use mathlib.Core.Path.{◌≡◌}
use lib.ListN.{length, drop}
use Rattle.labeling.specs.Points.{placed}
use Rattle.format.specs.Sheet.{points_of}
use Rattle.format.specs.Plate.{pairs}
use Rattle.plate_maker.specs.Writing.{SoFar}
use Rattle.plate_maker.proofs.writing.write_pairs.Given as goal

abbrev pub invariant-loop-k : goal.invariant-loop-k
invariant-loop-k l =
    (length l.output ≡ length l.initial.output)
    × SoFar (points_of l.sheet) (pairs (placed (points_of l.sheet) l.list)) l.initial.output l.at (length l.list) (drop l.k l.list) l.k l.last l.output
