-- Two numbers for each point, which a program finds once for all slabs. proofs/Comparisons.antt shows that the tests of the recurrence are
-- comparisons with them. Assumes nothing.
use Rattle.std.specs.Prelude.{◌≡◌, Bool, true, cond, ◌&&◌, ltb}
use Prim.Native.Nat.{ℕ, zero, suc, ◌≤◌}
use Rattle.recurrence.specs.Recurrence.{Heights, overlaps, reaches_over}
use Rattle.recurrence.specs.Recurrence.{greatest}

-- THE LEAST

-- The least i of 1 to m that passes, or d. A loop from m down to 1 that keeps in d the last i that passed computes it.
unfoldable pub least : (ℕ → Bool) → ℕ → ℕ → ℕ
least f d zero = d
least f d (suc m) = least f (cond (f (suc m)) (suc m) d) m

-- i is one of 1 to m, and passes.
pub record Passes (f : ℕ → Bool) (m i : ℕ) : Type 0 where
  pub low : 1 ≤ i
  pub high : i ≤ m
  pub passes : f i ≡ true

-- THE TWO NUMBERS

-- j is above i, right of i, and its label overlaps that of i.
unfoldable pub overlaps_above : Heights → ℕ → ℕ → Bool
overlaps_above H i j = ltb i j && (ltb (H.rank i) (H.rank j) && overlaps H i j)

-- The least point above i that is right of i and overlaps it, n + 1 if none.
unfoldable pub high_of : Heights → ℕ → ℕ
high_of H i = least (overlaps_above H i) (suc H.n) H.n

-- The topmost point whose label reaches over p, 0 if none: the greatest point below p that is right of p and overlaps it.
unfoldable pub top_of : Heights → ℕ → ℕ
top_of H p = greatest (reaches_over H p) H.n
