-- A plate's sections over its bytes, and the first no of its questions (document 01, "Sheet and plate as bytes" and "Questions in
-- their order"). A count past the end of the bytes reads 0, so each is defined on any bytes. Assumes nothing.
use Rattle.std.specs.Prelude.{Bool, cond, not, ◌&&◌, List, [], ℕ, ◌+◌, ◌*◌, eqb, length, get_or, take, drop}
use Rattle.labeling.specs.Points.{Points, Choice, outside, placed}
use Rattle.format.specs.Sheet.{point_count, points_of, ask, then_no, plate_sheet_no, sheet_length}
use Rattle.format.specs.Plate.{pairs, choice_of}
use Rattle.format.specs.Bytes.{same_bytes}
use Rattle.format.specs.Ascending.{ascending}
use Rattle.clash.specs.FirstClash.{is_clash, first_clash}

-- THE SECTIONS: "the sheet's bytes; then the inside count and one byte for each inside position, ascending; then the outside count
-- and, for each outside point from the highest row down, its position and its margin column, a byte each."

-- The sheet's bytes.
unfoldable pub sheet_of : List ℕ → List ℕ
sheet_of p = take (sheet_length p) p

abbrev pub inside_count : List ℕ → ℕ
inside_count p = get_or p (sheet_length p) 0

-- Where the inside positions start.
abbrev pub inside_start : List ℕ → ℕ
inside_start p = 11 + 6 * point_count p

-- "The position bytes without their count byte."
unfoldable pub inside_list : List ℕ → List ℕ
inside_list p = take (inside_count p) (drop (inside_start p) p)

-- Where the outside count stands.
abbrev pub outside_start : List ℕ → ℕ
outside_start p = inside_start p + inside_count p

abbrev pub outside_count : List ℕ → ℕ
outside_count p = get_or p (outside_start p) 0

-- The bytes after the outside count.
unfoldable pub outside_pairs : List ℕ → List ℕ
outside_pairs p = drop (outside_start p + 1) p

-- 41: "Do the two sections have all their bytes, end where the plate ends, and hold n points together?" Both counts are read where
-- they stand and added as whole numbers.
unfoldable pub sections_fit : List ℕ → Bool
sections_fit p = eqb (length p) (outside_start p + 1 + 2 * outside_count p) && eqb (inside_count p + outside_count p) (point_count p)

-- 43: "Are the outside pairs just the other points, in order, with the margin rule's columns?" Of the points P and the choice S, the
-- bytes are those that the plate of S has there.
unfoldable pub pairs_right : Points → Choice → List ℕ → Bool
pairs_right P S bytes = same_bytes bytes (pairs (placed P (outside P S)))

-- 41 to 44, where 42 is "Is each inside position below n and above the one before it?", and 44 is "Is the choice valid?", answered by
-- the first clash. 0 if there is no no.
unfoldable pub sections_no : List ℕ → ℕ
sections_no p =
    let P = points_of (sheet_of p) in
    let S = choice_of (inside_list p) in
    ask (sections_fit p) 41
    (ask (ascending (point_count p) (inside_list p)) 42
    (ask (pairs_right P S (outside_pairs p)) 43
    (ask (not (is_clash (first_clash P S))) 44
    0)))

-- The first no of a plate, 0 if there is none: "Plate, after the sheet".
unfoldable pub plate_no : List ℕ → ℕ
plate_no p = then_no (plate_sheet_no p) (sections_no p)

-- "The plate reader hands back the inside list as the very stretch of the plate that holds it ... A refused plate hands back its own
-- empty start": the bytes handed back, and how far from the plate's start they stand.
unfoldable pub handed_back : List ℕ → List ℕ
handed_back p = cond (eqb (plate_no p) 0) (inside_list p) []

unfoldable pub handed_back_at : List ℕ → ℕ
handed_back_at p = cond (eqb (plate_no p) 0) (inside_start p) 0
