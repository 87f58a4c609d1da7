-- `orders::numbers::write_sums` meets its contract: after k turns the sums are those of the numbers, and of the triangular numbers, below
-- k.
-- Assumes nothing.
use Rattle.std.proofs.Common.{refl, arith}
use Rattle.orders.proofs.Cells.{both-none, both-more}
use Rattle.orders.specs.Sums.{tri, tet}
use Rattle.orders.proofs.Sums.{tri-next, tet-next, tri-most, tet-most}
use Rattle.orders.proofs.numbers.write_sums.Goals as goal

pub loop-k-init : goal.loop-k-init
unfolding tri tet
loop-k-init c = (refl, refl, both-none _ _ _ _ _)

pub overflow_add-tetrahedral : goal.overflow_add-tetrahedral
overflow_add-tetrahedral c = let k = c.loop-k.k in omega (arith, tri-most k (omega arith), tet-most k (omega arith))

pub overflow_add-triangular : goal.overflow_add-triangular
overflow_add-triangular c = omega (arith, tri-most c.loop-k.k (omega arith))

pub loop-k-preserved : goal.loop-k-preserved
loop-k-preserved c =
    let inv = c.loop-k.invariant in (
      omega (arith, tri-next c.loop-k.k),
      omega (arith, tet-next c.loop-k.k),
      both-more _ _ _ _ _ _ _ _ _ inv.2 (omega arith) (omega arith) (λ i l z. omega arith)
          (λ i l z. omega arith) (λ i j l m z. omega arith) inv.0 inv.1,
    )
