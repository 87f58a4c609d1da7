-- Top and high of a point: what loops find, and what writing them leaves. proofs/LimitsLaws.antt shows that it leaves the points as they
-- are. Assumes nothing.
use Rattle.std.specs.Prelude.{◌≡◌, ℕ, ◌+◌, ◌<◌, ◌≤◌, Bool, ◌&&◌, List, length, nat_le, nat_lt, slice_index}
use Rattle.recurrence.specs.Recurrence.{Heights, Point, Sorted}
use Rattle.recurrence.specs.Comparisons.{Passes, high_of, top_of}
use Rattle.orders.specs.Arrays.{heights_of}
use Rattle.orders.specs.Layout.{top_field, high_field, triangular_field}
use Rattle.orders.specs.Layout.{array_cells, first_top, first_high}

-- DOWN TO THE GREATEST, UP TO THE LEAST

-- None that passes is more than j.
pub record AtMost (f : ℕ → Bool) (m j : ℕ) : Type 0 where
  pub most : (k : ℕ) → Passes f m k → k ≤ j

-- None that passes is less than j.
pub record AtLeast (f : ℕ → Bool) (m j : ℕ) : Type 0 where
  pub least : (k : ℕ) → Passes f m k → j ≤ k

-- WHERE TO LOOK

-- The label of i ends below the row of j.
unfoldable pub label_below : Heights → ℕ → ℕ → Bool
label_below H i j = nat_le (H.row i + H.h) (H.row j)

-- The column of j is one of those from `from` on, and below `to`.
unfoldable pub column_within : Heights → ℕ → ℕ → ℕ → Bool
column_within H j from to = nat_le from (H.column j) && nat_lt (H.column j) to

-- THE ARRAY

-- Few points in both orders.
pub record InOrder (s : List ℕ) : Type 0 where
  pub long : length s ≡ array_cells
  pub few : (heights_of s).n ≤ 32
  pub sorted : Sorted (heights_of s)

-- Only cells of top and high differ.
pub record Kept (s r : List ℕ) : Type 0 where
  pub long : length r ≡ length s
  pub cell : (c : ℕ) → (top_field ≤ c → c < triangular_field → ⊥) → slice_index r c ≡ slice_index s c

-- Top and high of each point; the rest is as it was.
pub record Limited (s r : List ℕ) : Type 0 where
  pub kept : Kept s r
  pub top-is : (i : ℕ) → Point (heights_of r) i → slice_index r (top_field + i) ≡ top_of (heights_of r) i
  pub high_is : (i : ℕ) → Point (heights_of r) i → slice_index r (high_field + i) ≡ high_of (heights_of r) i

-- Those of the points 1 to m are written into s.
pub record LimitedTo (s : List ℕ) (m : ℕ) (r : List ℕ) : Type 0 where
  pub kept : Kept s r
  pub top : (k : ℕ) → k < m → slice_index r (first_top + k) ≡ top_of (heights_of s) (k + 1)
  pub high : (k : ℕ) → k < m → slice_index r (first_high + k) ≡ high_of (heights_of s) (k + 1)
