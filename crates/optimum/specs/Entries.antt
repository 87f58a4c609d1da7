-- The cells of an entry: a number of 64 bits in four cells, and behind all numbers a cell for a note. Assumes nothing.
use Rattle.std.specs.Prelude.{ℕ, ◌+◌, List, slice_index, slice_set}
use Rattle.orders.specs.Words.{with_value}
use Rattle.optimum.specs.Places.{notes}

-- THE NOTE of place i.
unfoldable pub note_at : List ℕ → ℕ → ℕ
note_at t i = slice_index t (notes + i)

-- The list with the number x and the note k + 1 at place i.
unfoldable pub with_entry : List ℕ → ℕ → ℕ → ℕ → List ℕ
with_entry t i x k = slice_set (with_value t i x) (notes + i) (k + 1)
