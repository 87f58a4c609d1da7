-- Sums of numbers, and numbers in another order. proofs/Sums.antt shows that a sum is the same in another order.
-- Assumes nothing.
use Rattle.std.specs.Prelude.{◌≡◌, ℕ, zero, suc, ◌+◌, ◌<◌}

-- f 0 + ... + f (m - 1).
unfoldable pub sum : (ℕ → ℕ) → ℕ → ℕ
sum f zero = 0
sum f (suc m) = f m + sum f m

-- k lists the numbers below n, each once, at the places below m.
pub record Lists (k : ℕ → ℕ) (m n : ℕ) : Type 0 where
  pub below : (i : ℕ) → i < m → k i < n
  pub once : (i j : ℕ) → i < m → j < m → k i ≡ k j → i ≡ j
  pub each : (p : ℕ) → p < n → (i : ℕ) × (i < m) × (k i ≡ p)
