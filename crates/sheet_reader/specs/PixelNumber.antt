-- A pixel as one number, so that two pixels are compared at once. Assumes nothing.
use Rattle.std.specs.Prelude.{◌≡◌, ℕ, ◌+◌, ◌*◌, ◌<◌}

-- k is the number of the pixel in column x and row y.
abbrev pub PixelNumber : ℕ → ℕ → ℕ → Type 0
PixelNumber x y k = (k ≡ x + 65536 * y) × (x < 65536)
