-- `plate_maker::writing::write_inside` meets its contract: the positions, and then their count before them. Assumes nothing.
use mathlib.Core.Path.{refl}
use Prim.Native.Nat.{◌+◌}
use lib.ListN.{length}
use native.Mathlib.Omega.{arith}
use Rattle.format.proofs.Written.{written-front, written-fits}
use Rattle.plate_maker.proofs.writing.write_inside.Goals as goal

pub returns : goal.returns
returns c =
    let a = c.args in (
      refl,
      rw (c.copy_to.ensures, written-fits a.output.now (a.at + 1) a.list.now (omega arith))
          (written-front a.output.now a.at a.list.now (length a.list.now) (omega arith)),
    )
