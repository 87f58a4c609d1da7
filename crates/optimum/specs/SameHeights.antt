-- Two descriptions of the same points in height order. Assumes nothing.
use Rattle.std.specs.Prelude.{◌≡◌, ℕ, ◌<◌, ◌≤◌}
use Rattle.recurrence.specs.Recurrence.{Heights}
use Rattle.orders.specs.Layout.{field_cells}

-- G has the same points as H, of which there are few, and the same ranks of the boundaries.
pub record SameHeights (H G : Heights) : Type 0 where
  pub few : H.n ≤ 32
  pub n : G.n ≡ H.n
  pub w : G.w ≡ H.w
  pub h : G.h ≡ H.h
  pub column : (i : ℕ) → i < field_cells → G.column i ≡ H.column i
  pub row : (i : ℕ) → i < field_cells → G.row i ≡ H.row i
  pub weight : (i : ℕ) → i < field_cells → G.weight i ≡ H.weight i
  pub allowed : (i : ℕ) → i < field_cells → G.allowed i ≡ H.allowed i
  pub at_rank : (t : ℕ) → t < field_cells → G.at_rank t ≡ H.at_rank t
  pub rank : (i : ℕ) → i < field_cells → G.rank i ≡ H.rank i
