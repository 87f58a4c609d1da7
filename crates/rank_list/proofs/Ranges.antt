-- A test of each number of a range, in order, and of each number below n. Assumes nothing.
use Rattle.std.specs.Prelude.{◌≡◌, refl, Bool, true, ℕ, zero, suc, ◌+◌, ◌≤◌, ◌<◌}
use Rattle.std.specs.List.{list_all, range_with_len}
use Rattle.std.proofs.Common.{arith}
use Rattle.labeling.specs.Conflicts.{every}
use Rattle.labeling.proofs.Decide.{same, Decides, dec-true, dec-and, dec-map, dec-unique}
use Rattle.labeling.proofs.Tests.{dec-every}

-- the test of n numbers from a on decides that each passes
dec-range : (f : ℕ → Bool) (a n : ℕ) → Decides (list_all f (range_with_len a n)) ((i : ℕ) → a ≤ i → i < a + n → f i ≡ true)
dec-range f a zero = record { is = λ e i l m. absurd (omega arith); of = λ k. refl }
dec-range f a (suc n) =
    dec-map (λ x i l m. same i a (λ q. rw q x.0) (λ ne. x.1 i (omega arith) (omega arith)))
    (λ k. (k a (omega arith) (omega arith), λ i l m. k i (omega arith) (omega arith)))
    (dec-and (dec-true (f a)) (dec-range f (a + 1) n))

-- `all` over the range from 0 to n is the test of each number below n
pub all-every : (f : ℕ → Bool) (n : ℕ) → list_all f (range_with_len 0 n) ≡ every f n
all-every f n =
    dec-unique (dec-range f 0 n)
    (dec-map (λ x i l m. x i (omega arith)) (λ k i l. k i (omega arith) (omega arith)) (dec-every f _ n (λ i. dec-true (f i))))
