-- The marks of an outside point together. proofs/Pixels.antt shows that two points share a pixel exactly if they conflict, so that
-- validity by pixels is validity by arithmetic. Assumes nothing.
use Rattle.std.specs.Prelude.{◌⊎◌, ℕ}
use Rattle.labeling.specs.Points.{Points, Pixel}
use Rattle.labeling.specs.Marks.{Leader, Outer}

-- What an outside point in margin column k marks.
abbrev pub Out : Points → ℕ → ℕ → Pixel → Type 0
Out P k i p = Leader P k i p ⊎ Outer P k i p
