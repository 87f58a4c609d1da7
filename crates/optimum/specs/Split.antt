-- A choice by position, and the outside positions in height order. Assumes nothing.
use Rattle.std.specs.Prelude.{◌≡◌, ℕ, zero, suc, ◌<◌, ◌≤◌, Bool, false, cond, List, [], ◌∷◌, ◌++◌, slice_index_or}
use Rattle.labeling.specs.Points.{Choice}
use Rattle.recurrence.specs.Recurrence.{Point}
use Rattle.orders.specs.Arrays.{heights_of, position_at}
use Rattle.optimum.specs.Choosing.{listed}
use Rattle.optimum.specs.declared.lists.Positions.{Positions}

-- The choice that an array of flags holds: true is inside.
abbrev pub flagged : List Bool → Choice
flagged l p = slice_index_or l p false

-- The array has few points, and each has a position of its own that is below their number.
pub record Numbered (heights : List ℕ) : Type 0 where
  pub few : (heights_of heights).n ≤ 32
  pub below : (i : ℕ) → Point (heights_of heights) i → position_at heights i < (heights_of heights).n
  pub once : (i j : ℕ) → Point (heights_of heights) i → Point (heights_of heights) j → position_at heights i ≡ position_at heights j → i ≡ j

-- The outside positions of the points i, i - 1, ..., 1 in height order.
unfoldable pub outside_down : Choice → (ℕ → ℕ) → ℕ → List ℕ
outside_down S position zero = []
outside_down S position (suc i) = cond (S (position (suc i))) (outside_down S position i) (position (suc i) ∷ outside_down S position i)

-- The outside positions of the whole array, in height order downwards.
abbrev pub outside_positions : (heights : List ℕ) → (choice : List Bool) → List ℕ
outside_positions heights choice = outside_down (flagged choice) (position_at heights) (heights_of heights).n

-- The outside positions listed so far, r. Of the positions `whole`, `done` are listed; the positions `left` are still to come.
pub record Listed (whole left : List ℕ) (r : Positions) : Type 0 where
  pub done : List ℕ
  pub is : r ≡ listed done
  pub rest : done ++ left ≡ whole
