-- When two points conflict, and the test of validity, by arithmetic. proofs/Pixels.antt shows that two points conflict exactly if they
-- mark one pixel, and that the test decides validity. Beside each fact stands the test that computes it; proofs/Tests.antt shows that they
-- agree. Assumes nothing.
use Rattle.std.specs.Prelude.{◌≡◌, Bool, true, cond, not, ◌&&◌, ◌||◌, ℕ, zero, suc, ◌+◌, ◌≤◌, ◌<◌, ltb, leb, eqb}
use Rattle.labeling.specs.Points.{Points, Choice}
use Rattle.labeling.specs.Marks.{LabelOnMap, label_on_map_b}

-- The labels of i and j share a pixel.
abbrev pub Overlap : Points → ℕ → ℕ → Type 0
Overlap P i j =
    (P.column i < P.column j + P.w) × (P.column j < P.column i + P.w) × (P.row i < P.row j + P.h) × (P.row j < P.row i + P.h)

abbrev pub overlap_b : Points → ℕ → ℕ → Bool
overlap_b P i j =
    ltb (P.column i) (P.column j + P.w) && ltb (P.column j) (P.column i + P.w)
    && ltb (P.row i) (P.row j + P.h) && ltb (P.row j) (P.row i + P.h)

-- The label of i shares a pixel with the leader of j.
abbrev pub Hits : Points → ℕ → ℕ → Type 0
Hits P i j = (P.row i ≤ P.row j) × (P.row j < P.row i + P.h) × (P.column i ≤ P.column j)

abbrev pub hits_b : Points → ℕ → ℕ → Bool
hits_b P i j = leb (P.row i) (P.row j) && ltb (P.row j) (P.row i + P.h) && leb (P.column i) (P.column j)

-- Two different positions conflict: two labels, a label and a leader, or two leaders in one row.
unfoldable pub Conflict : Points → Choice → ℕ → ℕ → Type 0
Conflict P S i j = cond (S i) (cond (S j) (Overlap P i j) (Hits P i j)) (cond (S j) (Hits P j i) (P.row i ≡ P.row j))

unfoldable pub conflict_b : Points → Choice → ℕ → ℕ → Bool
conflict_b P S i j = cond (S i) (cond (S j) (overlap_b P i j) (hits_b P i j)) (cond (S j) (hits_b P j i) (eqb (P.row i) (P.row j)))

-- No two positions conflict, and no inside label leaves the map.
pub record Free (P : Points) (S : Choice) : Type 0 where
  pub apart : (i j : ℕ) → i < P.n → j < P.n → (i ≡ j → ⊥) → Conflict P S i j → ⊥
  pub within : (i : ℕ) → i < P.n → S i ≡ true → LabelOnMap P i

-- Every number below n passes.
unfoldable pub every : (ℕ → Bool) → ℕ → Bool
every f zero = true
every f (suc n) = f n && every f n

-- No two positions conflict.
unfoldable pub apart_b : Points → Choice → Bool
apart_b P S = every (λ i. every (λ j. eqb i j || not (conflict_b P S i j)) P.n) P.n

-- No inside label leaves the map.
unfoldable pub within_b : Points → Choice → Bool
within_b P S = every (λ i. not (S i) || label_on_map_b P i) P.n

-- The choice is valid.
unfoldable pub valid_b : Points → Choice → Bool
valid_b P S = apart_b P S && within_b P S
