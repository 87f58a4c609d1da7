-- A test of each number below n. Assumes nothing.
use Rattle.std.specs.Prelude.{◌≡◌, refl, Bool, true, ℕ, zero, suc, ◌<◌}
use Rattle.std.proofs.Common.{arith}
use Rattle.labeling.specs.Conflicts.{every}
use Rattle.labeling.proofs.Decide.{same, and_left, and_right, and_both}

pub every_of : (f : ℕ → Bool) (n : ℕ) → ((i : ℕ) → i < n → f i ≡ true) → every f n ≡ true
unfolding every
every_of f zero k = refl
every_of f (suc n) k = and_both _ _ (k n (omega arith)) (every_of f n (λ i l. k i (omega arith)))

pub every-is : (f : ℕ → Bool) (n : ℕ) → every f n ≡ true → (i : ℕ) → i < n → f i ≡ true
unfolding every
every-is f zero e i l = absurd (omega arith)
every-is f (suc n) e i l = same i n (λ k. rw k (and_left _ _ e)) (λ k. every-is f n (and_right (f n) _ e) i (omega arith))
