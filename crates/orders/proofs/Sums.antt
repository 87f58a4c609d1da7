-- The theorems on the definitions of specs/Sums.antt. Assumes nothing.
use Rattle.std.specs.Prelude.{◌≡◌, ℕ, zero, suc, ◌+◌, ◌*◌, ◌≤◌}
use Rattle.std.proofs.Common.{add-one, arith}
use Rattle.orders.specs.Sums.{tri, tet}

pub tri-next : (k : ℕ) → tri (k + 1) ≡ tri k + k
unfolding tri
tri-next k = rw add-one

pub tet-next : (k : ℕ) → tet (k + 1) ≡ tet k + tri k
unfolding tet
tet-next k = rw add-one

-- Up to 36 both fit in 16 bits.
pub tri-most : (k : ℕ) → k ≤ 36 → tri k ≤ 36 * k
unfolding tri
tri-most zero l = omega arith
tri-most (suc k) l = omega (arith, tri-most k (omega arith))

pub tet-most : (k : ℕ) → k ≤ 36 → tet k ≤ 1296 * k
unfolding tet
tet-most zero l = omega arith
tet-most (suc k) l = omega (arith, tri-most k (omega arith), tet-most k (omega arith))
