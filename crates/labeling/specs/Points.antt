-- Points, pixels, choices, and the margin rule (document 01, "Marks and pixels", and document 02 (b) and (c)). Assumes nothing.
use Rattle.std.specs.Prelude.{◌≡◌, Bool, false, cond, ◌&&◌, ◌||◌, List, [], ◌∷◌, ℕ, zero, suc, ◌+◌, ◌<◌, ltb, leb, eqb}

-- A sheet's figures: the positions 0 to n - 1, the map's sides, the label's width w and height h, and the column and row of each
-- position. Rows may be shared; columns and rows at n and above mean nothing.
pub record Points : Type 0 where
  pub n : ℕ
  pub map_width : ℕ
  pub map_height : ℕ
  pub w : ℕ
  pub h : ℕ
  pub column : ℕ → ℕ
  pub row : ℕ → ℕ

-- "A choice of inside points puts all others outside": true is inside, false is outside. Only positions below n matter.
abbrev pub Choice : Type 0
Choice = ℕ → Bool

-- No two points stand on one pixel.
pub record Distinct (P : Points) : Type 0 where
  pub apart : (i j : ℕ) → i < P.n → j < P.n → P.row i ≡ P.row j → P.column i ≡ P.column j → i ≡ j

-- No two points share a row. A sheet needn't have this: "Points may now share a row if their columns differ" (document 02 (c)).
pub record DistinctRows (P : Points) : Type 0 where
  pub apart : (i j : ℕ) → i < P.n → j < P.n → P.row i ≡ P.row j → i ≡ j

-- A pixel: of a column 0, 1, ... (on the map, or past its right or top edge); or in the margin, d pixels left of the map's left
-- edge, which is column -1 - d ("Columns left of the map are negative"). So no negative number is needed.
pub data Pixel : Type 0 where
  at_column : (column row : ℕ) → Pixel
  in_margin : (d row : ℕ) → Pixel

-- THE OUTSIDE POINTS, "from the highest row down"; those "of one row stand with the smaller column first" (document 02 (c)).

-- Position i stands before position j.
unfoldable pub before : Points → ℕ → ℕ → Bool
before P i j = ltb (P.row j) (P.row i) || eqb (P.row j) (P.row i) && ltb (P.column i) (P.column j)

-- Position i put into its place in an ordered list.
unfoldable pub insert : Points → ℕ → List ℕ → List ℕ
insert P i [] = i ∷ []
insert P i (j ∷ l) = cond (before P i j) (i ∷ j ∷ l) (j ∷ insert P i l)

-- The outside positions below m, in order.
unfoldable pub outside_below : Points → Choice → ℕ → List ℕ
outside_below P S zero = []
outside_below P S (suc m) = cond (S m) (outside_below P S m) (insert P m (outside_below P S m))

-- The outside positions, in order.
unfoldable pub outside : Points → Choice → List ℕ
outside P S = outside_below P S P.n

-- Position i is listed.
unfoldable pub among : ℕ → List ℕ → Bool
among i [] = false
among i (j ∷ l) = eqb i j || among i l

-- THE MARGIN RULE: "go through the outside points from the highest row down".

-- An outside position with its margin column.
pub record Placed : Type 0 where
  pub position : ℕ
  pub margin : ℕ

-- An outside point "takes the previous column plus 1 if its row is at most h below the previous row, else column 0" (document 02 (b)): i
-- comes next after j, which has margin column k.
unfoldable pub next_margin : Points → ℕ → ℕ → ℕ → ℕ
next_margin P j k i = cond (leb (P.row j) (P.row i + P.h)) (k + 1) 0

-- Position j in margin column k, and after it the list l.
unfoldable pub placed_from : Points → ℕ → ℕ → List ℕ → List Placed
placed_from P j k [] = record { position = j; margin = k } ∷ []
placed_from P j k (i ∷ l) = record { position = j; margin = k } ∷ placed_from P i (next_margin P j k i) l

-- "The first takes column 0."
unfoldable pub placed : Points → List ℕ → List Placed
placed P [] = []
placed P (j ∷ l) = placed_from P j 0 l

-- The margin column that a list gives to position i (0 where it isn't listed).
unfoldable pub margin_in : ℕ → List Placed → ℕ
margin_in i [] = 0
margin_in i (p ∷ l) = cond (eqb i p.position) p.margin (margin_in i l)

-- The margin column of an outside position.
unfoldable pub margin_column : Points → Choice → ℕ → ℕ
margin_column P S i = margin_in i (placed P (outside P S))
