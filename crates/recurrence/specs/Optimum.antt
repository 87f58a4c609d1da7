-- THE OPTIMUM and the choice that is recovered from the whole slab. proofs/Optimum.antt shows that this choice has no conflicts, that it
-- weighs the value, and that no choice weighs more. Assumes nothing.
use Rattle.std.specs.Prelude.{Bool, ℕ, suc}
use Rattle.recurrence.specs.Recurrence.{Heights, value, recovered}

-- 0 if there is no choice without conflicts, otherwise one more than the greatest weight of one.
unfoldable pub optimum : Heights → ℕ
optimum H = value H H.n 0 (suc H.n) 0

-- A choice of that weight.
unfoldable pub chosen : Heights → ℕ → Bool
chosen H = recovered H H.n 0 (suc H.n) 0
