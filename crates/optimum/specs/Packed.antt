-- What the table asks of the array. Assumes nothing.
use Rattle.std.specs.Prelude.{◌≡◌, ℕ, suc, ◌+◌, ◌<◌, ◌≤◌, List, slice_index}
use Rattle.recurrence.specs.Recurrence.{Point, Sorted, total}
use Rattle.recurrence.specs.Totals.{all}
use Rattle.recurrence.specs.Comparisons.{high_of, top_of}
use Rattle.orders.specs.Sums.{tri, tet}
use Rattle.orders.specs.Arrays.{heights_of}
use Rattle.orders.specs.Layout.{sum_cells, top_field, high_field, triangular_field, tetrahedral_field, weight_bound}

-- The points are in height order and few; top and high are theirs; the boundaries have rank n; the two tables of numbers are right; each
-- point weighs something, and all together far less than 64 bits hold.
pub record Packed (s : List ℕ) : Type 0 where
  pub few : (heights_of s).n ≤ 32
  pub sorted : Sorted (heights_of s)
  pub top-is : (i : ℕ) → Point (heights_of s) i → slice_index s (top_field + i) ≡ top_of (heights_of s) i
  pub high_is : (i : ℕ) → Point (heights_of s) i → slice_index s (high_field + i) ≡ high_of (heights_of s) i
  pub lower-rank : (heights_of s).rank 0 ≡ (heights_of s).n
  pub upper-rank : (heights_of s).rank (suc (heights_of s).n) ≡ (heights_of s).n
  pub tri-is : (k : ℕ) → k < sum_cells → slice_index s (triangular_field + k) ≡ tri k
  pub tet-is : (k : ℕ) → k < sum_cells → slice_index s (tetrahedral_field + k) ≡ tet k
  pub heavy : (i : ℕ) → Point (heights_of s) i → 1 ≤ (heights_of s).weight i
  pub light : total (heights_of s) all (heights_of s).n < weight_bound
