-- The cells that don't depend on where the points are. Assumes nothing.
use Rattle.std.specs.Prelude.{◌≡◌, List, ℕ, ◌+◌, ◌≤◌, ◌<◌, length, get_or, set, replicate}
use Rattle.format.specs.Sheet.{point_count, label_width, label_height}
use Rattle.orders.specs.Layout.{sum_cells, triangular_field, tetrahedral_field, count_cell, width_cell, height_cell, array_cells}
use Rattle.orders.specs.Sums.{tri, tet}

-- The array at first.
unfoldable pub blank_of : List ℕ
blank_of = replicate array_cells 0

-- THE CELLS

-- The sheet's numbers and the two tables; 0 elsewhere.
pub record Numbers (sheet s : List ℕ) : Type 0 where
  pub long : length s ≡ array_cells
  pub n-is : get_or s count_cell 0 ≡ point_count sheet
  pub w-is : get_or s width_cell 0 ≡ label_width sheet
  pub h-is : get_or s height_cell 0 ≡ label_height sheet
  pub tri-is : (k : ℕ) → k < sum_cells → get_or s (triangular_field + k) 0 ≡ tri k
  pub tet-is : (k : ℕ) → k < sum_cells → get_or s (tetrahedral_field + k) 0 ≡ tet k
  pub other : (c : ℕ) → c < count_cell → (triangular_field ≤ c → c < tetrahedral_field + sum_cells → ⊥) → get_or s c 0 ≡ 0

-- The sheet's three numbers written.
abbrev pub counted : List ℕ → List ℕ → List ℕ
counted sheet s = set (set (set s count_cell (point_count sheet)) width_cell (label_width sheet)) height_cell (label_height sheet)
