-- What is known of a choice that follows the recovery. proofs/Reached.antt shows that it has no conflicts.
-- Assumes nothing.
use Rattle.std.specs.Prelude.{◌≡◌, Bool, true, false, ℕ, ◌≤◌, ◌<◌}
use Rattle.recurrence.specs.Recurrence.{Heights, Point, Overlap, Hits}
use Rattle.recurrence.specs.Recovered.{Open}

-- i is known to be inside: it is q, or strictly between a and b and of rank t or more.
pub data Known (H : Heights) (t a b q i : ℕ) : Type 0 where
  is-q : 1 ≤ q → i ≡ q → Known H t a b q i
  is_right : a < i → i < b → t ≤ H.rank i → Known H t a b q i

-- The labels of the points known to be inside don't overlap.
pub record Apart (H : Heights) (t a b q : ℕ) : Type 0 where
  pub apart : (i k : ℕ) → Known H t a b q i → Known H t a b q k → (i ≡ k → ⊥) → Overlap H i k → ⊥

-- No open point is in a conflict with another point from a to b, or with q; and those inside are allowed.
pub record NoConflicts (H : Heights) (S : ℕ → Bool) (t a b q : ℕ) : Type 0 where
  pub known : (j k : ℕ) → Open H t a b j → S j ≡ true → Known H t a b q k → Overlap H j k → ⊥
  pub both : (j k : ℕ) → Open H t a b j → Open H t a b k → j < k → S j ≡ true → S k ≡ true → Overlap H j k → ⊥
  pub leaders : (j k : ℕ) → Open H t a b j → S j ≡ true → j < k → k ≤ b → Point H k → S k ≡ false → Hits H j k → ⊥
  pub rows : (j k : ℕ) → Open H t a b j → S j ≡ false → j < k → k ≤ b → Point H k → S k ≡ false → H.row j ≡ H.row k → ⊥
  pub allowed : (j : ℕ) → Open H t a b j → S j ≡ true → H.allowed j ≡ true
