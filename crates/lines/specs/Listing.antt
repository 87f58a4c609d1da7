-- The listing of a plate, over the plate's own bytes (document 01, "Plates worked out", P1). It is defined on any bytes: of what is no
-- plate it has what the fields say, 0 past the end. Assumes nothing.
use Rattle.std.specs.Prelude.{Bool, cond, List, [], ◌∷◌, ◌++◌, ℕ, zero, suc, ◌+◌, max, eqb}
use Rattle.labeling.specs.Points.{among}
use Rattle.format.specs.Sheet.{point_count, call_number}
use Rattle.plate_reader.specs.PlateQuestions.{inside_count, inside_list, outside_pairs}
use Rattle.lines.specs.Text.{ascii, decimal, spaced}

-- The margin columns of outside pairs, a position and a margin column each.
abbrev pub margins : List ℕ → List ℕ
margins [] = []
margins (i ∷ []) = []
margins (i ∷ k ∷ l) = k ∷ margins l

-- The greatest of some numbers.
abbrev pub greatest : List ℕ → ℕ
greatest [] = 0
greatest (k ∷ l) = max k (greatest l)

-- "margin columns used (the greatest margin column plus 1, or 0 with no point outside)"
abbrev pub used : List ℕ → ℕ
used [] = 0
used (k ∷ l) = greatest (k ∷ l) + 1

unfoldable pub columns_used : List ℕ → ℕ
columns_used pairs = used (margins pairs)

-- The margin column of position i among outside pairs, 0 if it has none.
unfoldable pub margin_of : ℕ → List ℕ → ℕ
margin_of i [] = 0
margin_of i (j ∷ []) = 0
margin_of i (j ∷ k ∷ l) = cond (eqb i j) k (margin_of i l)

-- "Line one: points, inside count, margin columns used".
unfoldable pub first_line : List ℕ → List ℕ
first_line p = ascii "plate" ++ spaced (point_count p) ++ spaced (inside_count p) ++ spaced (columns_used (outside_pairs p)) ++ ascii "\n"

-- "`in`, or `out` and its margin column"
unfoldable pub place : Bool → ℕ → List ℕ
place inside margin = cond inside (ascii " in") (ascii " out" ++ spaced margin)

-- "call number, then `in`, or `out` and its margin column": position i's line.
unfoldable pub point_line : List ℕ → ℕ → List ℕ
point_line p i = decimal (call_number p i) ++ place (among i (inside_list p)) (margin_of i (outside_pairs p)) ++ ascii "\n"

-- "Then each point in sheet order": the first m points.
unfoldable pub point_lines : List ℕ → ℕ → List ℕ
point_lines p zero = []
point_lines p (suc m) = point_lines p m ++ point_line p m

-- THE LISTING of a plate.
unfoldable pub listing_of : List ℕ → List ℕ
listing_of p = first_line p ++ point_lines p (point_count p)
