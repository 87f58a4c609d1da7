-- The layout of the array that the best choice is made from: where each field starts. A field has a cell for each of the boundaries 0 and
-- n + 1 and for up to 32 points between them; the first point's is the cell after the field's start. The columns stand first, from cell 0
-- on. A weight has four cells, so its place is a fourth of its first cell (Words.antt). Assumes nothing.
use Rattle.std.specs.Prelude.{ℕ}

-- The cells of a field.
abbrev pub field_cells : ℕ
field_cells = 34

abbrev pub first_column : ℕ
first_column = 1

abbrev pub row_field : ℕ
row_field = 34

abbrev pub first_row : ℕ
first_row = 35

-- The right rank of each point: its place from the left.
abbrev pub rank_field : ℕ
rank_field = 68

abbrev pub first_rank : ℕ
first_rank = 69

-- The point of each rank, rank 0 first.
abbrev pub at_rank_field : ℕ
at_rank_field = 102

-- The topmost point whose label reaches over a point.
abbrev pub top_field : ℕ
top_field = 136

abbrev pub first_top : ℕ
first_top = 137

-- The least point above a point that is right of it and overlaps it.
abbrev pub high_field : ℕ
high_field = 170

abbrev pub first_high : ℕ
first_high = 171

-- The triangular and the tetrahedral numbers of 0, 1, 2, ...: tables of this many cells each.
abbrev pub sum_cells : ℕ
sum_cells = 36

abbrev pub triangular_field : ℕ
triangular_field = 204

abbrev pub tetrahedral_field : ℕ
tetrahedral_field = 240

-- Places of four cells.
abbrev pub weight_field : ℕ
weight_field = 69

abbrev pub first_weight : ℕ
first_weight = 70

abbrev pub allowed_field : ℕ
allowed_field = 412

abbrev pub first_allowed : ℕ
first_allowed = 413

-- The position of each point in the sheet.
abbrev pub position_field : ℕ
position_field = 446

abbrev pub first_position : ℕ
first_position = 447

-- One cell each: the number of points, the width and the height of a label.
abbrev pub count_cell : ℕ
count_cell = 480

abbrev pub width_cell : ℕ
width_cell = 481

abbrev pub height_cell : ℕ
height_cell = 482

-- All of the array.
abbrev pub array_cells : ℕ
array_cells = 483

-- The weights of all points together are less than 2⁵⁰, so that no sum of values needs more than 64 bits.
abbrev pub weight_bound : ℕ
weight_bound = 1125899906842624
