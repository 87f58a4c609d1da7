-- The table of conflicts for a pair in height order. proofs/ConflictTable.antt shows that it is right, and that a conflict is mutual.
-- Assumes nothing.
use Rattle.std.specs.Prelude.{◌≡◌, cond, ◌⊎◌, ℕ, ◌+◌, ◌≤◌, ◌<◌}
use Rattle.labeling.specs.Points.{Points, Choice}

-- i stands before j in height order: by row, then by column, ascending.
abbrev pub Under : Points → ℕ → ℕ → Type 0
Under P i j = (P.row i < P.row j) ⊎ ((P.row i ≡ P.row j) × (P.column i < P.column j))

-- The table, for i under j. Both inside: the labels meet. The lower inside, the upper outside: its label meets the leader. The lower
-- outside, the upper inside: never. Both outside: they share a row.
unfoldable pub TableConflict : Points → Choice → ℕ → ℕ → Type 0
TableConflict P S i j =
    cond (S i)
    (cond (S j)
    ((P.row j < P.row i + P.h) × (P.column i < P.column j + P.w) × (P.column j < P.column i + P.w))
    ((P.row j < P.row i + P.h) × (P.column i ≤ P.column j)))
    (cond (S j) ⊥ (P.row i ≡ P.row j))
