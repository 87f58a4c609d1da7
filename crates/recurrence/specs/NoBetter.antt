-- What the proof speaks of that no choice without conflicts weighs more than the value of a slab that it matches (proofs/NoBetter.antt).
-- Assumes nothing.
use Rattle.std.specs.Prelude.{◌≡◌, Bool, true, ℕ}
use Rattle.recurrence.specs.Recurrence.{Heights}
use Rattle.recurrence.specs.RecurrenceTests.{Reaches}

-- The only inside point whose label reaches over a, if there is one, is q.
pub record Only (H : Heights) (S : ℕ → Bool) (a q : ℕ) : Type 0 where
  pub is : (i : ℕ) → S i ≡ true → Reaches H a i → i ≡ q
