-- The weights and permissions of the points in height order, written to the array. Assumes nothing.
use Rattle.std.specs.Prelude.{◌≡◌, List, ℕ, suc, ◌+◌, ◌*◌, ◌≤◌, ◌<◌, length, get_or}
use Rattle.orders.specs.Layout.{first_weight, first_allowed, first_position}
use Rattle.orders.specs.Words.{FourSmall}
use Rattle.orders.specs.Arrays.{weight_at}
use Rattle.orders.specs.Given.{weight_of, permitted, permission}

-- r is s with the weights and permissions of the points 1 to m, whose positions s has.
pub record GivenCells (rank : ℕ → ℕ) (sheet : List ℕ) (m : ℕ) (s r : List ℕ) : Type 0 where
  pub long : length r ≡ length s
  pub weight_is : (k : ℕ) → k < m → weight_at r (suc k) ≡ weight_of rank (get_or s (first_position + k) 0)
  pub weight-small : (k : ℕ) → k < m → FourSmall r ((first_weight + k) * 4)
  pub allowed-is : (k : ℕ) → k < m → get_or r (first_allowed + k) 0 ≡ permission (permitted sheet (get_or s (first_position + k) 0))
  pub other : (c : ℕ) → (first_weight * 4 ≤ c → c < first_weight * 4 + m * 4 → ⊥) → (first_allowed ≤ c → c < first_allowed + m → ⊥)
      → get_or r c 0 ≡ get_or s c 0
