-- The order of the outside points as a fact: from the highest row down, of one row the smaller column first. proofs/Order.antt shows that
-- their list is what it should be. Assumes nothing.
use Rattle.std.specs.Prelude.{◌≡◌, true, ◌⊎◌, List, [], ◌∷◌, ℕ, ◌<◌}
use Rattle.labeling.specs.Points.{Points}
use Rattle.labeling.specs.Points.{among}

-- The order as a fact.
abbrev pub Before : Points → ℕ → ℕ → Type 0
Before P i j = (P.row j < P.row i) ⊎ ((P.row j ≡ P.row i) × (P.column i < P.column j))

-- IN ORDER, AND EACH ONCE

abbrev pub First : Points → ℕ → List ℕ → Type 0
First P j l = (x : ℕ) → among x l ≡ true → Before P j x

abbrev pub Ordered : Points → List ℕ → Type 0
Ordered P [] = Unit {0}
Ordered P (j ∷ l) = First P j l × Ordered P l
