-- The theorems on the definitions of specs/Padded.antt. Assumes nothing.
use Rattle.std.specs.Prelude.{◌≡◌, refl, List, ℕ, zero, suc, ◌-◌, ◌≤◌, length, take, drop, replicate}
use Rattle.std.proofs.Common.{length-append, take_at, arith}
use Rattle.format.specs.Padded.{padded}

-- the first cells are the list
pub padded-take : (n : ℕ) (l : List ℕ) → take (length l) (padded n l) ≡ l
unfolding padded
padded-take n l = take_at l _ (length l) refl

pub padded-length : (n : ℕ) (l : List ℕ) → length l ≤ length (padded n l)
unfolding padded
padded-length n l = omega (arith, length-append l (replicate (n - length l) 0))

pub drop-zeros : (n k : ℕ) → drop {A = ℕ} k (replicate n 0) ≡ replicate (n - k) 0
drop-zeros n zero = let e : n - 0 ≡ n = omega arith in rw e
drop-zeros zero (suc k) = let e : 0 - suc k ≡ 0 = omega arith in rw e
drop-zeros (suc n) (suc k) = let e : suc n - suc k ≡ n - k = omega arith in rw e (drop-zeros n k)
