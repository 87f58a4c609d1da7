-- The pixels that a point marks, and when a choice is valid (document 01, "Marks and pixels", and document 02 (a)). Beside each kind of
-- mark stands the test that computes it; proofs/Tests.antt shows that they agree. Assumes nothing.
use Rattle.std.specs.Prelude.{◌≡◌, Bool, true, false, cond, ◌&&◌, ◌||◌, ◌⊎◌, ℕ, ◌+◌, ◌*◌, ◌≤◌, ◌<◌, ltb, leb, eqb}
use Rattle.labeling.specs.Points.{Points, Choice, Pixel, at_column, in_margin, margin_column}

-- "An inside point (c, r) marks the pixels of columns c to c + w - 1 and rows r to r + h - 1." The sentence that follows there, "This
-- label may run over the map's right or top edge", is void (document 02 (a)); `Valid` asks for the contrary.
abbrev pub Label : Points → ℕ → Pixel → Type 0
Label P i (at_column x y) = (P.column i ≤ x) × (x < P.column i + P.w) × (P.row i ≤ y) × (y < P.row i + P.h)
Label P i (in_margin d y) = ⊥

abbrev pub label_b : Points → ℕ → Pixel → Bool
label_b P i (at_column x y) = leb (P.column i) x && ltb x (P.column i + P.w) && leb (P.row i) y && ltb y (P.row i + P.h)
label_b P i (in_margin d y) = false

-- "An outside point in margin column k marks a leader, row r from column -k·w to column c": in the margin the distances 0 to k·w - 1.
abbrev pub Leader : Points → ℕ → ℕ → Pixel → Type 0
Leader P k i (at_column x y) = (y ≡ P.row i) × (x ≤ P.column i)
Leader P k i (in_margin d y) = (y ≡ P.row i) × (d < k * P.w)

abbrev pub leader_b : Points → ℕ → ℕ → Pixel → Bool
leader_b P k i (at_column x y) = eqb y (P.row i) && leb x (P.column i)
leader_b P k i (in_margin d y) = eqb y (P.row i) && ltb d (k * P.w)

-- "and an outer label, columns -(k + 1)·w to -k·w - 1 and rows r to r + h - 1": the distances k·w to (k + 1)·w - 1.
abbrev pub Outer : Points → ℕ → ℕ → Pixel → Type 0
Outer P k i (at_column x y) = ⊥
Outer P k i (in_margin d y) = (k * P.w ≤ d) × (d < (k + 1) * P.w) × (P.row i ≤ y) × (y < P.row i + P.h)

abbrev pub outer_b : Points → ℕ → ℕ → Pixel → Bool
outer_b P k i (at_column x y) = false
outer_b P k i (in_margin d y) = leb (k * P.w) d && ltb d ((k + 1) * P.w) && leb (P.row i) y && ltb y (P.row i + P.h)

-- Position i marks the pixel p.
unfoldable pub Marks : Points → Choice → ℕ → Pixel → Type 0
Marks P S i p = cond (S i) (Label P i p) (Leader P (margin_column P S i) i p ⊎ Outer P (margin_column P S i) i p)

unfoldable pub marks_b : Points → Choice → ℕ → Pixel → Bool
marks_b P S i p = cond (S i) (label_b P i p) (leader_b P (margin_column P S i) i p || outer_b P (margin_column P S i) i p)

-- Positions i and j mark one pixel.
abbrev pub Shared : Points → Choice → ℕ → ℕ → Type 0
Shared P S i j = (p : Pixel) × Marks P S i p × Marks P S j p

-- Document 02 (a): the label of position i, put inside, lies "wholly on the map". proofs/Frame.antt says it of the label's pixels.
abbrev pub LabelOnMap : Points → ℕ → Type 0
LabelOnMap P i = (P.column i + P.w ≤ P.map_width) × (P.row i + P.h ≤ P.map_height)

abbrev pub label_on_map_b : Points → ℕ → Bool
label_on_map_b P i = leb (P.column i + P.w) P.map_width && leb (P.row i + P.h) P.map_height

-- "It is valid if no pixel is marked by two points." And document 02 (a): "an inside label must lie wholly on the map, so a choice with an
-- overhanging label isn't valid". Outer labels and leaders have no such rule.
pub record Valid (P : Points) (S : Choice) : Type 0 where
  pub apart : (p : Pixel) (i j : ℕ) → i < P.n → j < P.n → (i ≡ j → ⊥) → Marks P S i p → Marks P S j p → ⊥
  pub within : (i : ℕ) → i < P.n → S i ≡ true → LabelOnMap P i
