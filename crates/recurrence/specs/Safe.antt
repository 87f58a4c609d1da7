-- A safe point may be inside, and its label reaches over no point above it in its slab. proofs/Safe.antt shows that it gives no more
-- outside than inside, so that its cut needn't be tried: for any weights, points that aren't allowed, and points that share a row.
-- Assumes nothing.
use Rattle.std.specs.Prelude.{◌≡◌, Bool, true, not, ◌&&◌, ℕ, suc, ◌≤◌, ◌<◌, ltb}
use Rattle.recurrence.specs.Recurrence.{Heights, Overlap, every_point, reaches_over}
use Rattle.recurrence.specs.Recurrence.{may_be_inside, join, value}
use Rattle.recurrence.specs.RecurrenceTests.{Between, Reaches}

-- The label of p reaches over no point between p and b.
pub record Unreached (H : Heights) (p b : ℕ) : Type 0 where
  pub none : (y : ℕ) → p < y → y < b → Reaches H y p → ⊥

-- Its test.
unfoldable pub unreached : Heights → ℕ → ℕ → Bool
unreached H p b = every_point (λ y. not (ltb p y && (ltb y b && reaches_over H y p))) H.n

-- THE POINT OF RANK t IS SAFE in the slab (a, b, q): it may be inside, and its label reaches over no point between it and b. (The slab is
-- one that the recurrence meets: q is 0, or its label reaches over a; and a, if it is a point, is right of the point of rank t.)
pub record Safe (H : Heights) (t a b q : ℕ) : Type 0 where
  pub ranked : t < H.n
  pub within : Between a (H.at_rank t) b
  pub upper : b ≤ suc H.n
  pub over : 1 ≤ q → Reaches H a q
  pub lower-rank : 1 ≤ a → t < H.rank a
  pub may-be-inside : may_be_inside H t a b q ≡ true
  pub unreached : Unreached H (H.at_rank t) b

-- THE PARTS OF A CUT AND THE WHOLE

-- No point between p and b of rank less than t overlaps j.
pub record Aside (H : Heights) (t p b j : ℕ) : Type 0 where
  pub apart : (y : ℕ) → p < y → y < b → H.rank y < t → Overlap H y j → ⊥

-- In the slab (a, b, q) the points above p of rank less than t overlap neither p, nor the points below it of rank u or more, nor q.
pub record Beside (H : Heights) (t p u a b q : ℕ) : Type 0 where
  pub low : a < p
  pub high : p < b
  pub upper : b ≤ suc H.n
  pub own : Aside H t p b p
  pub inside : (j : ℕ) → a < j → j < p → u ≤ H.rank j → Aside H t p b j
  pub over : 1 ≤ q → Aside H t p b q

-- The part below p and the part above it, with no label over p, come to no more than the whole.
abbrev pub Whole : Heights → ℕ → ℕ → ℕ → Type 0
Whole H t p u = (a b q : ℕ) → Beside H t p u a b q → join (value H u a p q) (value H u p b 0) ≤ value H u a b q
