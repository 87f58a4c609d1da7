-- The plate of a sheet and a choice, as bytes (document 01, "Sheet and plate as bytes"), and the best plate of a sheet and a rank list, if
-- one is lent (document 02 (d) and (e)). Assumes nothing.
use Rattle.std.specs.Prelude.{cond, List, [], ◌∷◌, ◌++◌, ℕ, zero, suc, length, Option}
use Rattle.labeling.specs.Points.{Choice, Placed, outside, placed, among}
use Rattle.labeling.specs.Best.{best_choice}
use Rattle.format.specs.Sheet.{point_count, points_of}
use Rattle.format.specs.RankList.{rank_in}

-- The choice with just the listed positions inside.
abbrev pub choice_of : List ℕ → Choice
choice_of l i = among i l

-- "Sections stand in a fixed order, each after its one-byte count": a count and the bytes after it.

-- The inside positions below m, "ascending".
unfoldable pub inside_below : Choice → ℕ → List ℕ
inside_below S zero = []
inside_below S (suc m) = inside_below S m ++ cond (S m) (m ∷ []) []

-- "the inside count and one byte for each inside position, ascending": the list of a choice.
unfoldable pub inside_section : List ℕ → Choice → List ℕ
inside_section s S = let l = inside_below S (point_count s) in length l ∷ l

-- "for each outside point from the highest row down, its position and its margin column, a byte each"
unfoldable pub pairs : List Placed → List ℕ
pairs [] = []
pairs (p ∷ l) = p.position ∷ p.margin ∷ pairs l

-- "then the outside count and, for each outside point ..."
unfoldable pub outside_section : List ℕ → Choice → List ℕ
outside_section s S = let l = outside (points_of s) S in length l ∷ pairs (placed (points_of s) l)

-- "Plate: the sheet's bytes; then" the two sections.
unfoldable pub plate_of : List ℕ → Choice → List ℕ
plate_of s S = s ++ inside_section s S ++ outside_section s S

-- "The best choice is then the valid one with the greatest sum of ranks inside, with ties as in the preceding request" (document 02 (e)):
-- of those the preferred one (labeling's Best.antt has the sentence).
abbrev pub best_choice_of : List ℕ → Option (List ℕ) → Choice
best_choice_of s r = best_choice (points_of s) (rank_in r)

-- "the returned plate is fixed for each sheet" (document 02 (d)), and rank list: that of their best choice.
unfoldable pub best_plate : List ℕ → Option (List ℕ) → List ℕ
best_plate s r = plate_of s (best_choice_of s r)
