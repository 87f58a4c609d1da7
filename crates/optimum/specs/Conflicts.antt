-- The tests of the recurrence, as the program makes them.
-- Assumes nothing.
use Rattle.std.specs.Prelude.{ℕ, suc, ◌+◌, ◌<◌, ◌≤◌, Bool, not, ◌&&◌, ◌||◌, ◌==◌, nat_le, nat_lt}
use Rattle.recurrence.specs.Recurrence.{Heights, Point, overlaps}
use Rattle.recurrence.specs.RecurrenceTests.{Reaches}
use Rattle.recurrence.specs.Comparisons.{high_of, top_of}

-- The label of p ends below the leader of b, if b is a point.
unfoldable pub ends_below : Heights → ℕ → ℕ → Bool
ends_below H p b = nat_lt H.n b || nat_le (H.row p + H.h) (H.row b)

-- p is a point strictly between the ends of a slab.
pub record Candidate (H : Heights) (a b q p : ℕ) : Type 0 where
  pub point : Point H p
  pub low : a < p
  pub high : p < b
  pub upper : b ≤ suc H.n
  pub fits : q ≤ a

-- WHO MAY BE INSIDE: the code's tests in their order, each with those after it

abbrev pub beside_reaching : Heights → ℕ → ℕ → Bool
beside_reaching H q p = q == 0 || not (overlaps H p q)

abbrev pub below_upper : Heights → ℕ → ℕ → ℕ → Bool
below_upper H b q p = ends_below H p b && beside_reaching H q p

abbrev pub below_high : Heights → ℕ → ℕ → ℕ → Bool
below_high H b q p = nat_le b (high_of H p) && below_upper H b q p

abbrev pub above_top : Heights → ℕ → ℕ → ℕ → ℕ → Bool
above_top H a b q p = nat_le (top_of H p) a && below_high H b q p

-- HOW FAR A LABEL REACHES

-- The label of p reaches over no point between p and y, which is one of the points above p, or b.
pub record Climbing (H : Heights) (p b y : ℕ) : Type 0 where
  pub low : p < y
  pub high : y ≤ b
  pub none : (z : ℕ) → p < z → z < y → Reaches H z p → ⊥
