-- A slab of the recurrence that a choice matches. proofs/Slabs.antt has its successors, and facts about two or three points.
-- Assumes nothing.
use Rattle.std.specs.Prelude.{◌≡◌, Bool, true, false, ℕ, suc, ◌≤◌, ◌<◌}
use Rattle.recurrence.specs.Recurrence.{Heights}
use Rattle.recurrence.specs.RecurrenceTests.{Reaches}

-- A SLAB THAT A CHOICE MATCHES

-- a and b are outside or boundaries; t is at most their ranks; the points strictly between of rank t or more are inside; and q is 0,
-- or an inside point whose label reaches over a.
pub record Matches (H : Heights) (S : ℕ → Bool) (t a b q : ℕ) : Type 0 where
  pub t-le : t ≤ H.n
  pub ordered : a < b
  pub b-le : b ≤ suc H.n
  pub a-out : 1 ≤ a → S a ≡ false
  pub b-out : b ≤ H.n → S b ≡ false
  pub a-rank : 1 ≤ a → t ≤ H.rank a
  pub b-rank : b ≤ H.n → t ≤ H.rank b
  pub right : (i : ℕ) → a < i → i < b → t ≤ H.rank i → S i ≡ true
  pub q-in : 1 ≤ q → S q ≡ true
  pub q-reaches : 1 ≤ q → Reaches H a q
