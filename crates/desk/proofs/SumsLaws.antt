-- Sums of ranks: the sum of a list is the weight of the choice that it stands for. Assumes nothing.
use Rattle.std.specs.Prelude.{◌≡◌, refl, true, List, [], ◌∷◌, ◌++◌, ℕ, zero, suc, ◌+◌, ◌*◌, ◌≤◌, ◌<◌}
use Rattle.std.proofs.Common.{sym, ap, ◌∙◌, append-nil, arith}
use Rattle.std.specs.List.{sum_by}
use Rattle.std.proofs.lemmas.List.Recursion.{is_sum_by}
use Rattle.labeling.proofs.Decide.{decide}
use Rattle.labeling.specs.Points.{Choice}
use Rattle.labeling.specs.Best.{weight_below, weight}
use Rattle.format.specs.Sheet.{point_count, points_of}
use Rattle.format.specs.Plate.{choice_of, inside_below}
use Rattle.format.specs.Ascending.{ascending}
use Rattle.format.proofs.InsideList.{ascending-head, list-of-choice}
use Rattle.mark_questions.specs.MarkQuestions.{positions}
use Rattle.mark_questions.specs.Lists.{Listed}
use Rattle.desk.specs.Desk.{sum_of, list_sum}

-- a sum over the list
pub sum-by : (rank : ℕ → ℕ) (l : List ℕ) → sum_of rank l ≡ sum_by rank l
unfolding sum_of
sum-by rank l = is_sum_by (sum_of rank) rank refl (λ _ _. refl) l

-- of two lists, one behind the other
sum-append : (rank : ℕ → ℕ) (l m : List ℕ) → sum_of rank (l ++ m) ≡ sum_of rank l + sum_of rank m
unfolding sum_of
sum-append rank [] m = omega arith
sum-append rank (p ∷ l) m = omega (arith, sum-append rank l m)

-- one more at the end
pub sum-last : (rank : ℕ → ℕ) (l : List ℕ) (p : ℕ) → sum_of rank (l ++ p ∷ []) ≡ sum_of rank l + rank p
unfolding sum_of
sum-last rank l p = omega (arith, sum-append rank l (p ∷ []))

-- of the inside positions of a choice: its weight
pub inside-sum : (rank : ℕ → ℕ) (S : Choice) (m : ℕ) → sum_of rank (inside_below S m) ≡ weight_below rank S m
unfolding sum_of inside_below weight_below
inside-sum rank S zero = refl
inside-sum rank S (suc m) =
    decide (S m)
    (λ e. rw e (omega (arith, sum-last rank (inside_below S m) m, inside-sum rank S m)))
    (λ e. rw (e, append-nil) (omega (arith, inside-sum rank S m)))

-- with ranks up to 9, no choice of m positions weighs more than 9 each
pub weight-below-most : (rank : ℕ → ℕ) (S : Choice) (m : ℕ) → ((i : ℕ) → i < m → rank i ≤ 9) → weight_below rank S m ≤ 9 * m
unfolding weight_below
weight-below-most rank S zero f = omega arith
weight-below-most rank S (suc m) f =
    let ih = weight-below-most rank S m (λ i l. f i (omega arith)) in
    let a = f m (omega arith) in
    decide (S m) (λ e. rw e (omega arith)) (λ e. rw e (omega arith))

-- only the ranks below n matter to a list of positions below n
pub sum_same : (rank other : ℕ → ℕ) (n : ℕ) (l : List ℕ) → ascending n l ≡ true → ((p : ℕ) → p < n → rank p ≡ other p)
    → sum_of rank l ≡ sum_of other l
unfolding sum_of
sum_same rank other n [] e f = refl
sum_same rank other n (p ∷ l) e f =
    let h = ascending-head n p l e in omega (arith, f p h.0, sum_same rank other n l h.2 f)

-- the sum of a list is the weight of its choice
pub list-sum : (rank : ℕ → ℕ) (s l : List ℕ) → Listed (point_count s) l
    → weight (points_of s) rank (choice_of (positions l)) ≡ list_sum rank l
unfolding weight
list-sum rank s l f =
    sym (inside-sum rank (choice_of (positions l)) (point_count s))
    ∙ ap (sum_of rank) (list-of-choice (point_count s) (positions l) f.up)
