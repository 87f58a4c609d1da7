-- The list of a choice and the choice of a list: an ascending list of positions below n is the list of just one choice. Assumes nothing.
use Rattle.std.specs.Prelude.{◌≡◌, refl, true, false, ◌||◌, List, [], ◌∷◌, ◌++◌, ℕ, zero, suc, ◌≤◌, ◌<◌, ltb, eqb}
use Rattle.std.proofs.Common.{sym, ◌∙◌, inr, append-nil, eq-eqb, ne_eqb, arith}
use Rattle.labeling.specs.Points.{Points, Choice, among}
use Rattle.labeling.proofs.Decide.{not-both, decide, same, dec-lt, and_left, and_right, and_both, or_left, or_right, or-false}
use Rattle.labeling.proofs.Margin.{among-head, among-tail, among-rest, among_none, among-last}
use Rattle.labeling.specs.Order.{Ordered}
use Rattle.labeling.proofs.Order.{ordered-unique}
use Rattle.format.specs.Plate.{choice_of, inside_below}
use Rattle.format.specs.Ascending.{below_next, ascending}

-- MEMBERS

inside-none : (S : Choice) → inside_below S zero ≡ []
unfolding inside_below
inside-none S = refl

inside_on : (S : Choice) (m : ℕ) → S m ≡ true → inside_below S (suc m) ≡ inside_below S m ++ m ∷ []
unfolding inside_below
inside_on S m e = rw e refl

inside-off : (S : Choice) (m : ℕ) → S m ≡ false → inside_below S (suc m) ≡ inside_below S m
unfolding inside_below
inside-off S m e = rw e (append-nil (inside_below S m))

-- just the inside positions are listed
pub inside_is : (S : Choice) (m x : ℕ) → among x (inside_below S m) ≡ true → (x < m) × (S x ≡ true)
inside_is S zero x a = absurd (among_none x (rw (inside-none S) at a))
inside_is S (suc m) x a =
    decide (S m)
    (λ e. same x m (λ q. (omega arith, rw q e)) (λ ne.
    let b : (among x (inside_below S m) || eqb x m) ≡ true = rw (inside_on S m e, among-last x m (inside_below S m)) at a in
    let r = inside_is S m x (rw (ne_eqb x m ne, or-false) at b) in (omega (arith, r.0), r.1)))
    (λ e. let r = inside_is S m x (rw (inside-off S m e) at a) in (omega (arith, r.0), r.1))

-- and each of them
pub inside-lists : (S : Choice) (m x : ℕ) → x < m → S x ≡ true → among x (inside_below S m) ≡ true
inside-lists S zero x l e = absurd (omega arith)
inside-lists S (suc m) x l e =
    decide (S m)
    (λ k. rw (inside_on S m k, among-last x m (inside_below S m))
    (same x m
    (λ q. or_right (among x (inside_below S m)) _ (eq-eqb x m q))
    (λ ne. or_left _ _ (inside-lists S m x (omega arith) e))))
    (λ k. same x m
    (λ q. absurd (not-both e (rw q k)))
    (λ ne. rw (inside-off S m k) (inside-lists S m x (omega arith) e)))

-- THE CHOICE OF A CHOICE'S LIST is that choice, on every position below n.
pub choice-of-list : (S : Choice) (n i : ℕ) → i < n → choice_of (inside_below S n) i ≡ S i
choice-of-list S n i l =
    decide (S i)
    (λ e. inside-lists S n i l e ∙ sym e)
    (λ e. decide (among i (inside_below S n)) (λ a. absurd (not-both (inside_is S n i a).1 e)) (λ a. a ∙ sym e))

-- ASCENDING

ascending-none : (n : ℕ) → ascending n [] ≡ true
unfolding ascending
ascending-none n = refl

pub ascending-head : (n i : ℕ) (l : List ℕ) → ascending n (i ∷ l) ≡ true → (i < n) × (below_next i l ≡ true) × (ascending n l ≡ true)
unfolding ascending
ascending-head n i l e = (
  (dec-lt i n).is (and_left _ _ e),
  and_left _ _ (and_right (ltb i n) _ e),
  and_right (below_next i l) _ (and_right (ltb i n) _ e),
)

ascending-cons : (n i : ℕ) (l : List ℕ) → i < n → below_next i l ≡ true → ascending n l ≡ true → ascending n (i ∷ l) ≡ true
unfolding ascending
ascending-cons n i l a b c = and_both _ _ ((dec-lt i n).of a) (and_both _ _ b c)

-- each member is below n
pub ascending-below : (n x : ℕ) (l : List ℕ) → ascending n l ≡ true → among x l ≡ true → x < n
ascending-below n x [] e a = absurd (among_none x a)
ascending-below n x (i ∷ l) e a =
    let h = ascending-head n i l e in
    same x i (λ q. omega (arith, h.0)) (λ ne. ascending-below n x l h.2 (among-rest x i l a ne))

-- and above the first
ascending-above : (n i x : ℕ) (l : List ℕ) → ascending n (i ∷ l) ≡ true → among x l ≡ true → i < x
ascending-above n i x [] e a = absurd (among_none x a)
ascending-above n i x (j ∷ l) e a =
    let h = ascending-head n i (j ∷ l) e in
    let lt : i < j = (dec-lt i j).is h.1 in
    same x j (λ q. omega arith) (λ ne. let r : j < x = ascending-above n j x l h.2 (among-rest x j l a ne) in omega arith)

-- one more at the end
ascending-last : (n m : ℕ) (l : List ℕ) → ascending n l ≡ true → ((x : ℕ) → among x l ≡ true → x < m) → m < n
    → ascending n (l ++ m ∷ []) ≡ true
ascending-last n m [] e f b = ascending-cons n m [] b refl e
ascending-last n m (i ∷ l) e f b =
    let h = ascending-head n i l e in
    ascending-cons n i (l ++ m ∷ []) h.0 (next l h.1) (ascending-last n m l h.2 (λ x a. f x (among-tail x i l a)) b)
  where
    next : (k : List ℕ) → below_next i k ≡ true → below_next i (k ++ m ∷ []) ≡ true
    next [] t = (dec-lt i m).of (f i (among-head i i l refl))
    next (j ∷ k) t = t

-- A CHOICE'S LIST IS ASCENDING.
pub inside-ascending : (S : Choice) (n m : ℕ) → m ≤ n → ascending n (inside_below S m) ≡ true
inside-ascending S n zero l = rw (inside-none S) (ascending-none n)
inside-ascending S n (suc m) l =
    let ih = inside-ascending S n m (omega arith) in
    decide (S m)
    (λ e. rw (inside_on S m e) (ascending-last n m (inside_below S m) ih (λ x a. (inside_is S m x a).0) (omega arith)))
    (λ e. rw (inside-off S m e) ih)

-- Points whose order is that of the positions: all in one row, each in the column of its position.
in_line : Points
in_line = record { n = 0; map_width = 0; map_height = 0; w = 0; h = 0; column = λ i. i; row = λ i. 0 }

ascending-ordered : (n : ℕ) (l : List ℕ) → ascending n l ≡ true → Ordered in_line l
unfolding in_line
ascending-ordered n [] e = tt
ascending-ordered n (i ∷ l) e = (λ x a. inr (refl, ascending-above n i x l e a), ascending-ordered n l (ascending-head n i l e).2)

-- THE LIST OF AN ASCENDING LIST'S CHOICE is that list.
pub list-of-choice : (n : ℕ) (l : List ℕ) → ascending n l ≡ true → inside_below (choice_of l) n ≡ l
list-of-choice n l e =
    ordered-unique in_line (inside_below (choice_of l) n) l
    (ascending-ordered n _ (inside-ascending (choice_of l) n n (omega arith)))
    (ascending-ordered n l e)
    (λ x a. (inside_is (choice_of l) n x a).1)
    (λ x a. inside-lists (choice_of l) n x (ascending-below n x l e a) a)
