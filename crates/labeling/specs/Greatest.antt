-- What the proof speaks of that the best is reached by a valid choice, and that no valid choice exceeds it (proofs/Greatest.antt).
-- Assumes nothing.
use Rattle.std.specs.Prelude.{◌≡◌, ℕ, suc, ◌<◌}
use Rattle.labeling.specs.Points.{Points, Choice}
use Rattle.labeling.specs.Marks.{Valid}
use Rattle.labeling.specs.Best.{weight}

-- R agrees with S below position k
abbrev pub UpTo : ℕ → Choice → Choice → Type 0
UpTo k R S = (i : ℕ) → i < k → R i ≡ S i

-- A valid choice whose weight is one less than t.
pub record Reaches (P : Points) (v : ℕ → ℕ) (t : ℕ) : Type 0 where
  pub choice : Choice
  pub valid : Valid P choice
  pub weighs : suc (weight P v choice) ≡ t
