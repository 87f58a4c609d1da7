-- The array that the best choice is made from: every field of the points in height order, one after the other (Layout.antt). Assumes
-- nothing.
use Rattle.std.specs.Prelude.{List, ℕ, ◌+◌, eqb, get_or}
use Rattle.recurrence.specs.Recurrence.{Heights}
use Rattle.orders.specs.Layout.{row_field, rank_field, at_rank_field, weight_field, allowed_field}
use Rattle.orders.specs.Layout.{position_field, count_cell, width_cell, height_cell}
use Rattle.orders.specs.Words.{value_at}

-- The weight of the point i, in four cells.
abbrev pub weight_at : List ℕ → ℕ → ℕ
weight_at s i = value_at s (weight_field + i)

-- The points in height order that the array describes.
unfoldable pub heights_of : List ℕ → Heights
heights_of s = record {
  n = get_or s count_cell 0;
  w = get_or s width_cell 0;
  h = get_or s height_cell 0;
  column = λ i. get_or s i 0;
  row = λ i. get_or s (row_field + i) 0;
  weight = weight_at s;
  allowed = λ i. eqb (get_or s (allowed_field + i) 0) 1;
  at_rank = λ t. get_or s (at_rank_field + t) 0;
  rank = λ i. get_or s (rank_field + i) 0;
}

-- The position (in the sheet) of the point i in height order.
unfoldable pub position_at : List ℕ → ℕ → ℕ
position_at s i = get_or s (position_field + i) 0
