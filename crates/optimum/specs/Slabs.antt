-- A slab (a, b, q) of the recurrence: its lower end is a, its upper end b, and q the point whose label reaches over its lower
-- end, or 0. The recurrence's functions of a slab. Assumes nothing.
use Rattle.std.specs.Prelude.{◌≡◌, ℕ, suc, ◌<◌, ◌≤◌, min, Bool, true, ◌||◌, ◌==◌}
use Rattle.recurrence.specs.Recurrence.{Heights, reaches_over, between, may_be_inside, value, out_value, in_value, takes_in, recovered}
use Rattle.optimum.specs.Places.{place_of}
use Rattle.optimum.specs.declared.table.Slab.{Slab}

-- p is strictly between its ends.
abbrev pub slab_has : Slab → ℕ → Bool
slab_has x p = between x.lower p x.upper

-- Its open points have a rank below this: the lesser of its ends' ranks.
unfoldable pub open_below : Heights → Slab → ℕ
open_below H x = min (H.rank x.lower) (H.rank x.upper)

-- Its value where the points of rank t or more are inside; and its value.
abbrev pub slab_below : Heights → ℕ → Slab → ℕ
slab_below H t x = value H t x.lower x.upper x.reaching

abbrev pub slab_value : Heights → Slab → ℕ
slab_value H x = slab_below H (open_below H x) x

-- The point of rank t may be inside; what it gives outside, and inside; and whether the recovery takes it in.
abbrev pub slab_inside : Heights → ℕ → Slab → Bool
slab_inside H t x = may_be_inside H t x.lower x.upper x.reaching

abbrev pub slab_out : Heights → ℕ → Slab → ℕ
slab_out H t x = out_value H t x.lower x.upper x.reaching

abbrev pub slab_in : Heights → ℕ → Slab → ℕ
slab_in H t x = in_value H t x.lower x.upper x.reaching

abbrev pub slab_takes : Heights → ℕ → Slab → Bool
slab_takes H t x = takes_in H t x.lower x.upper x.reaching

-- The recovery of the points below rank t puts i inside.
abbrev pub slab_recovered : Heights → ℕ → Slab → ℕ → Bool
slab_recovered H t x i = recovered H t x.lower x.upper x.reaching i

-- The parts of a slab that is cut at the point p: below p, and above it, where the label of q reaches over p, or that of none, where q
-- is 0.
abbrev pub lower_part : Slab → ℕ → Slab
lower_part x p = record x { upper = p }

abbrev pub upper_part : Slab → ℕ → ℕ → Slab
upper_part x p q = record x { lower = p; reaching = q }

-- The place of its entry in the table.
abbrev pub slab_place : Slab → ℕ
slab_place x = place_of x.lower x.upper x.reaching

-- q fits the lower end a: it is 0, or its label reaches over a.
unfoldable pub fitting : Heights → ℕ → ℕ → Bool
fitting H a q = q == 0 || reaches_over H a q

-- A slab of these points.
pub record Proper (H : Heights) (x : Slab) : Type 0 where
  pub order : x.lower < x.upper
  pub upper : x.upper ≤ suc H.n
  pub fits : fitting H x.lower x.reaching ≡ true
