-- What is given of each position beside its place: its weight by its rank (document 02 (e)), and whether it may be inside. Assumes nothing.
use Rattle.std.specs.Prelude.{Bool, cond, List, ℕ}
use Rattle.labeling.specs.Marks.{label_on_map_b}
use Rattle.recurrence.specs.TieBreak.{tie_broken}
use Rattle.format.specs.Sheet.{points_of}

-- The weight of position p, where i has the rank `rank i`: it weighs as its rank, but that ties are broken in sheet order.
unfoldable pub weight_of : (ℕ → ℕ) → ℕ → ℕ
weight_of rank p = tie_broken rank p

-- No position with a rank up to 9 weighs more than this.
abbrev pub heaviest : ℕ
heaviest = 40802189312

-- Position p of a sheet may be inside. Document 02 (a): "an inside label must lie wholly on the map".
unfoldable pub permitted : List ℕ → ℕ → Bool
permitted sheet p = label_on_map_b (points_of sheet) p

-- A permission as a cell has it.
abbrev pub permission : Bool → ℕ
permission b = cond b 1 0
