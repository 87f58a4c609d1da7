-- The outside positions stand in order, from the highest row down. Assumes nothing.
use Rattle.std.specs.Prelude.{◌≡◌, false, List, [], ◌∷◌, ℕ, zero, suc, ◌≤◌, ltb}
use Rattle.std.proofs.Common.{ltb-false}
use Rattle.labeling.specs.Points.{Points, Choice, before, insert, outside_below}
use Rattle.labeling.proofs.Decide.{not-both, decide, or_left}
use Rattle.labeling.specs.Margin.{Falling, Sorted}
pub use Rattle.labeling.proofs.BeforeRows.{before-is}

pub before-not : (P : Points) (i j : ℕ) → before P i j ≡ false → P.row i ≤ P.row j
unfolding before
before-not P i j e = decide (ltb (P.row j) (P.row i)) (λ k. absurd (not-both (or_left _ _ k) e)) (λ k. ltb-false _ _ k)

-- insertion keeps the order
pub insert-falling : (P : Points) (i r : ℕ) (l : List ℕ) → P.row i ≤ r → Falling P r l → Falling P r (insert P i l)
unfolding insert
insert-falling P i r [] b f = (b, tt)
insert-falling P i r (j ∷ l) b f =
    decide (before P i j)
    (λ e. rw e (b, (before-is P i j e, f.1)))
    (λ e. rw e (f.0, insert-falling P i (P.row j) l (before-not P i j e) f.1))

pub insert-sorted : (P : Points) (i : ℕ) (l : List ℕ) → Sorted P l → Sorted P (insert P i l)
unfolding insert
insert-sorted P i [] f = tt
insert-sorted P i (j ∷ l) f =
    decide (before P i j) (λ e. rw e (before-is P i j e, f)) (λ e. rw e (insert-falling P i (P.row j) l (before-not P i j e) f))

pub outside-sorted : (P : Points) (S : Choice) (m : ℕ) → Sorted P (outside_below P S m)
unfolding outside_below
outside-sorted P S zero = tt
outside-sorted P S (suc m) = decide (S m) (λ e. rw e (outside-sorted P S m)) (λ e. rw e (insert-sorted P m _ (outside-sorted P S m)))
