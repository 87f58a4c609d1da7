-- The theorems on the definitions of specs/Split.antt. Assumes nothing.
use Rattle.std.specs.Prelude.{ℕ, ◌≤◌, Bool, List}
use Rattle.labeling.specs.Points.{Points}
use Rattle.recurrence.specs.Positions.{Arranged}
use Rattle.orders.specs.Arrays.{heights_of, position_at}
use Rattle.std.proofs.Common.{arith}
use Rattle.optimum.specs.Split.{Numbered}

-- few points in height order have positions of their own
pub numbered : {P : Points} {v : ℕ → ℕ} {f : ℕ → Bool} (heights : List ℕ)
    → P.n ≤ 32 → Arranged P v f (heights_of heights) (position_at heights) → Numbered heights
numbered heights few A = record {
  few = omega (arith, A.n, few);
  below = λ i p. omega (arith, A.n, A.below i p);
  once = A.once;
}
