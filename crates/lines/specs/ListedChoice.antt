-- What the choice and the margin rule say of a listing. proofs/ListedChoice.antt shows that the listing of the plate of a choice says it.
-- So what an operator reads is proved from the choice on, and not just from the plate's bytes. Assumes nothing.
use Rattle.std.specs.Prelude.{List, [], ◌∷◌, ◌++◌}
use Prim.Native.Nat.{ℕ, zero, suc}
use Rattle.labeling.specs.Points.{Choice, Placed, outside, placed, margin_column}
use Rattle.labeling.specs.Best.{count}
use Rattle.format.specs.Sheet.{point_count, call_number, points_of}
use Rattle.lines.specs.Text.{ascii, decimal, spaced}
use Rattle.lines.specs.Listing.{used, place}

-- The margin columns of the outside points.
abbrev pub margins_of : List Placed → List ℕ
margins_of [] = []
margins_of (p ∷ l) = p.margin ∷ margins_of l

-- The line of position i: its call number, and whether the choice has it inside, or its margin column.
unfoldable pub choice_line : List ℕ → Choice → ℕ → List ℕ
choice_line s S i = decimal (call_number s i) ++ place (S i) (margin_column (points_of s) S i) ++ ascii "\n"

unfoldable pub choice_lines : List ℕ → Choice → ℕ → List ℕ
choice_lines s S zero = []
choice_lines s S (suc m) = choice_lines s S m ++ choice_line s S m

-- The sheet's points, the choice's inside count, and the greatest margin column of an outside point plus 1, or 0 with none; then each
-- position's line.
unfoldable pub choice_listing : List ℕ → Choice → List ℕ
choice_listing s S =
    ascii "plate" ++ spaced (point_count s) ++ spaced (count (points_of s) S) ++
    spaced (used (margins_of (placed (points_of s) (outside (points_of s) S)))) ++ ascii "\n" ++
    choice_lines s S (point_count s)
