-- The places of the table: an entry (a, b, q) with q ≤ a < b, by triangular and tetrahedral numbers.
-- Assumes nothing.
use Rattle.std.specs.Prelude.{ℕ, suc, ◌+◌}
use Rattle.orders.specs.Sums.{tri, tet}

-- The entries of 32 points; where their notes start, behind the four cells of each value; and the cells of the whole table.
abbrev pub entries : ℕ
entries = 6545

abbrev pub notes : ℕ
notes = 26180

abbrev pub table_cells : ℕ
table_cells = 32725

-- The place of the entry (a, b, q).
unfoldable pub place_of : ℕ → ℕ → ℕ → ℕ
place_of a b q = tet (suc b) + tri (suc a) + q
