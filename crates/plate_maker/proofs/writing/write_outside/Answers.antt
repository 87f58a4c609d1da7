-- `plate_maker::writing::write_outside` meets its contract: the pairs, and then their count before them. Assumes nothing.
use mathlib.Core.Path.{refl}
use lib.ListN.{length}
use native.Mathlib.Omega.{arith}
use Rattle.labeling.specs.Points.{placed}
use Rattle.format.specs.Sheet.{points_of}
use Rattle.format.specs.Plate.{pairs}
use Rattle.format.proofs.Written.{written-front}
use Rattle.plate_maker.specs.Writing.{section_of}
use Rattle.plate_maker.proofs.writing.write_outside.Goals as goal

pub returns : goal.returns
unfolding section_of
returns c =
    let a = c.args in (
      refl,
      rw c.write_pairs.ensures
          (written-front a.output.now a.at (pairs (placed (points_of a.sheet.now) a.list.now))
          (length a.list.now) (omega arith)),
    )
