-- The frame (document 02 (a)), and valid, said of pixels alone. proofs/Frame.antt shows that a label is on the map exactly if all its
-- pixels are, so that both ways to say valid agree. Assumes nothing.
use Rattle.std.specs.Prelude.{◌≡◌, true, ℕ, ◌<◌}
use Rattle.labeling.specs.Points.{Points, Choice, Pixel, at_column, in_margin}
use Rattle.labeling.specs.Marks.{Marks}

-- The map has the columns from 0 to its width less 1 and the rows from 0 to its height less 1.
abbrev pub OnMap : Points → Pixel → Type 0
OnMap P (at_column x y) = (x < P.map_width) × (y < P.map_height)
OnMap P (in_margin d y) = ⊥

-- No pixel is marked by two points, and every pixel that an inside point marks is on the map.
pub record ValidByPixels (P : Points) (S : Choice) : Type 0 where
  pub apart : (p : Pixel) (i j : ℕ) → i < P.n → j < P.n → (i ≡ j → ⊥) → Marks P S i p → Marks P S j p → ⊥
  pub on-map : (p : Pixel) (i : ℕ) → i < P.n → S i ≡ true → Marks P S i p → OnMap P p
