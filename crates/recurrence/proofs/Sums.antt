-- Sums of numbers; and a sum is the same in another order.
-- Assumes nothing.
use Rattle.std.specs.Prelude.{◌≡◌, refl, cond, ℕ, zero, suc, ◌+◌, ◌<◌, eqb}
use Rattle.std.proofs.Common.{sym, ◌∙◌, eq-eqb, ne_eqb, arith}
use Rattle.labeling.proofs.Decide.{same}
use Rattle.recurrence.specs.Sums.{sum, Lists}

-- Equal terms have equal sums.
pub sum_same : (f g : ℕ → ℕ) (m : ℕ) → ((i : ℕ) → i < m → f i ≡ g i) → sum f m ≡ sum g m
unfolding sum
sum_same f g zero e = refl
sum_same f g (suc m) e = omega (arith, e m (omega arith), sum_same f g m (λ i l. e i (omega arith)))

-- A sum of zeros is 0.
pub sum-none : (f : ℕ → ℕ) (m : ℕ) → ((i : ℕ) → i < m → f i ≡ 0) → sum f m ≡ 0
unfolding sum
sum-none f zero e = refl
sum-none f (suc m) e = omega (arith, e m (omega arith), sum-none f m (λ i l. e i (omega arith)))

-- A sum with one term that isn't 0 is that term.
pub sum_one : (f : ℕ → ℕ) (m k : ℕ) → k < m → ((i : ℕ) → i < m → (i ≡ k → ⊥) → f i ≡ 0) → sum f m ≡ f k
unfolding sum
sum_one f zero k l e = absurd (omega arith)
sum_one f (suc m) k l e =
    same k m
    (λ z. rw z (omega (arith, sum-none f m (λ i u. e i (omega arith) (λ y. omega arith)))))
    (λ ne. omega (arith, e m (omega arith) (λ y. ne (sym y)), sum_one f m k (omega arith) (λ i u. e i (omega arith))))

-- The sum of sums of two terms.
pub sum-add : (f g : ℕ → ℕ) (m : ℕ) → sum (λ i. f i + g i) m ≡ sum f m + sum g m
unfolding sum
sum-add f g zero = refl
sum-add f g (suc m) = omega (arith, sum-add f g m)

-- A double sum by rows is the double sum by columns.
pub sum-swap : (f : ℕ → ℕ → ℕ) (m n : ℕ) → sum (λ i. sum (f i) n) m ≡ sum (λ j. sum (λ i. f i j) m) n
unfolding sum
sum-swap f zero n = sym (sum-none (λ j. 0) n (λ j l. refl))
sum-swap f (suc m) n = omega (arith, sum-swap f m n, sum-add (f m) (λ j. sum (λ i. f i j) m) n)

-- A SUM IN ANOTHER ORDER IS THE SAME.
pub sum-listed : (g k : ℕ → ℕ) (m n : ℕ) → Lists k m n → sum (λ i. g (k i)) m ≡ sum g n
sum-listed g k m n s =
    sum_same (λ i. g (k i)) (λ i. sum (at i) n) m (λ i l. sym (row i l))
    ∙ (sum-swap at m n ∙ sum_same (λ p. sum (λ i. at i p) m) g n column)
  where
    -- g p if p stands at i.
    at : ℕ → ℕ → ℕ
    at i p = cond (eqb p (k i)) (g p) 0

    here : (i p : ℕ) → p ≡ k i → at i p ≡ g p
    here i p e = rw (eq-eqb p (k i) e)

    off : (i p : ℕ) → (p ≡ k i → ⊥) → at i p ≡ 0
    off i p ne = rw (ne_eqb p (k i) ne)

    row : (i : ℕ) → i < m → sum (at i) n ≡ g (k i)
    row i l = sum_one (at i) n (k i) (s.below i l) (λ p u ne. off i p ne) ∙ here i (k i) refl

    column : (p : ℕ) → p < n → sum (λ i. at i p) m ≡ g p
    column p l =
        let w = s.each p l in
        sum_one (λ i. at i p) m w.0 w.1 (λ i u ne. off i p (λ e. ne (s.once i w.0 u w.1 (sym e ∙ sym w.2))))
        ∙ here w.0 p (sym w.2)
