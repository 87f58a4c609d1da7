-- From height order back to positions. proofs/Positions.antt shows that the best of the points is the optimum of the points in height
-- order. Assumes nothing.
use Rattle.std.specs.Prelude.{◌≡◌}
use Rattle.std.proofs.Math.Bool.{Bool, true}
use Prim.Native.Nat.{ℕ, ◌<◌}
use Rattle.std.proofs.Math.Dec.{eqb}
use Rattle.labeling.specs.Points.{Points, Choice}
use Rattle.labeling.specs.Marks.{LabelOnMap}
use Rattle.labeling.specs.Conflicts
use Rattle.recurrence.specs.Recurrence.{Heights, Point, greatest}

-- H is P in height order: its point i is position `position i` of P, with the weights v and the permissions f of the positions.
pub record Arranged (P : Points) (v : ℕ → ℕ) (f : ℕ → Bool) (H : Heights) (position : ℕ → ℕ) : Type 0 where
  pub n : H.n ≡ P.n
  pub w : H.w ≡ P.w
  pub h : H.h ≡ P.h
  pub below : (i : ℕ) → Point H i → position i < P.n
  pub once : (i j : ℕ) → Point H i → Point H j → position i ≡ position j → i ≡ j
  pub each : (p : ℕ) → p < P.n → (i : ℕ) × Point H i × (position i ≡ p)
  pub column : (i : ℕ) → Point H i → H.column i ≡ P.column (position i)
  pub row : (i : ℕ) → Point H i → H.row i ≡ P.row (position i)
  pub weight : (i : ℕ) → Point H i → H.weight i ≡ v (position i)
  pub allowed : (i : ℕ) → Point H i → H.allowed i ≡ f (position i)

-- A choice R of positions and a choice S of points in height order are the same.
pub record SameChoice (H : Heights) (position : ℕ → ℕ) (R S : ℕ → Bool) : Type 0 where
  pub at : (i : ℕ) → Point H i → R (position i) ≡ S i

-- The permissions f are right: needed, since a position that is inside in a choice without conflicts and overhangs is permitted; and enough,
-- since the label of a permitted position is on the map.
pub record Permits (P : Points) (f : ℕ → Bool) : Type 0 where
  pub needed : (S : Choice) → Conflicts.Free P S → (p : ℕ) → p < P.n → S p ≡ true → f p ≡ true
  pub enough : (p : ℕ) → p < P.n → f p ≡ true → LabelOnMap P p

-- The point in height order at a position.
unfoldable pub height_of : Heights → (ℕ → ℕ) → ℕ → ℕ
height_of H position p = greatest (λ i. eqb (position i) p) H.n

-- A choice of points in height order, as a choice of positions.
unfoldable pub at_positions : Heights → (ℕ → ℕ) → (ℕ → Bool) → Choice
at_positions H position S p = S (height_of H position p)
