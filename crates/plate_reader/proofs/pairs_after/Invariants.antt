use mathlib.Core.Path.{◌≡◌}
use lib.ListN.{length}
use Rattle.format.specs.Sheet.{points_of}
use Rattle.clash.specs.ChoiceFlags.{held}
use Rattle.plate_reader.specs.OutsideWalk.{pairs_after}
use Rattle.plate_reader.proofs.pairs_after.Given as goal

abbrev pub invariant-loop-rest : goal.invariant-loop-rest
invariant-loop-rest l =
    pairs_after (points_of l.choice.sheet.now) (held l.choice.inside) l.fn.first.position l.fn.first.margin l.pairs
    ≡ pairs_after (points_of l.choice.sheet.now) (held l.choice.inside) l.last.position l.last.margin l.rest

abbrev pub decreases-loop-rest : goal.decreases-loop-rest
decreases-loop-rest l = length l.rest
