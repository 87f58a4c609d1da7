-- The margin: of two outside points at most h apart, the lower one stands further out.
-- Assumes nothing.
use Rattle.std.specs.Prelude.{◌≡◌, refl, Bool, true, false, ◌||◌, List, [], ◌∷◌, ◌++◌, ℕ, zero, suc, ◌+◌, ◌≤◌, ◌<◌, leb, eqb}
use Rattle.std.proofs.Common.{ap, ◌∙◌, le-leb, eq-eqb, ne_eqb, arith}
use Rattle.labeling.specs.Points.{Points, Choice, before, insert, outside_below, outside, among}
use Rattle.labeling.specs.Points.{next_margin, placed_from, placed, margin_in, margin_column}
use Rattle.labeling.proofs.Decide.{not-both, decide, same, or_left, or_right, or-false}
use Rattle.labeling.specs.Margin.{Falling, Sorted}
pub use Rattle.labeling.proofs.Sorted.{before-is, before-not, insert-falling, insert-sorted, outside-sorted}

pub among-head : (i j : ℕ) (l : List ℕ) → i ≡ j → among i (j ∷ l) ≡ true
unfolding among
among-head i j l e = or_left _ _ (eq-eqb i j e)

pub among-tail : (i j : ℕ) (l : List ℕ) → among i l ≡ true → among i (j ∷ l) ≡ true
unfolding among
among-tail i j l e = or_right (eqb i j) _ e

pub among-rest : (i j : ℕ) (l : List ℕ) → among i (j ∷ l) ≡ true → (i ≡ j → ⊥) → among i l ≡ true
unfolding among
among-rest i j l e ne = rw (ne_eqb i j ne) at e

pub among_none : (i : ℕ) → among i [] ≡ true → ⊥
unfolding among
among_none i e = not-both e refl

-- one more position at the end
pub among-last : (x m : ℕ) (l : List ℕ) → among x (l ++ m ∷ []) ≡ (among x l || eqb x m)
unfolding among
among-last x m [] = or-false (eqb x m)
among-last x m (y ∷ l) = ap (λ t. eqb x y || t) (among-last x m l) ∙ or_assoc (eqb x y) (among x l) (eqb x m)
  where
    or_assoc : (a b c : Bool) → (a || (b || c)) ≡ ((a || b) || c)
    or_assoc true b c = refl
    or_assoc false b c = refl

-- insertion lists i and keeps the others
pub insert-new : (P : Points) (i : ℕ) (l : List ℕ) → among i (insert P i l) ≡ true
unfolding insert
insert-new P i [] = among-head i i [] refl
insert-new P i (j ∷ l) = decide (before P i j) (λ e. rw e (among-head i i _ refl)) (λ e. rw e (among-tail i j _ (insert-new P i l)))

pub insert-old : (P : Points) (i x : ℕ) (l : List ℕ) → among x l ≡ true → among x (insert P i l) ≡ true
unfolding insert
insert-old P i x [] e = absurd (among_none x e)
insert-old P i x (j ∷ l) e =
    decide (before P i j)
    (λ k. rw k (among-tail x i _ e))
    (λ k. rw k (same x j (λ q. among-head x j _ q) (λ ne. among-tail x j _ (insert-old P i x l (among-rest x j l e ne)))))

pub outside-lists : (P : Points) (S : Choice) (m i : ℕ) → i < m → S i ≡ false → among i (outside_below P S m) ≡ true
unfolding outside_below
outside-lists P S zero i l e = absurd (omega arith)
outside-lists P S (suc m) i l e =
    same i m
    (λ q. let z : S m ≡ false = rw q at e in rw z (rw q (insert-new P m _)))
    (λ ne.
    let ih = outside-lists P S m i (omega arith) e in
    decide (S m) (λ k. rw k ih) (λ k. rw k (insert-old P m i _ ih)))

-- what follows in a falling list is no higher
pub falling-le : (P : Points) (r i : ℕ) (l : List ℕ) → Falling P r l → among i l ≡ true → P.row i ≤ r
falling-le P r i [] f e = absurd (among_none i e)
falling-le P r i (j ∷ l) f e =
    same i j
    (λ q. rw q f.0)
    (λ ne. let ih = falling-le P (P.row j) i l f.1 (among-rest i j l e ne) in omega arith)

pub sorted-le : (P : Points) (j i : ℕ) (l : List ℕ) → Sorted P (j ∷ l) → among i (j ∷ l) ≡ true → P.row i ≤ P.row j
sorted-le P j i l f e = falling-le P (P.row j) i (j ∷ l) (omega arith, f) e

-- the margin column of the first, and of the others
pub margin-head : (P : Points) (j k i : ℕ) (l : List ℕ) → i ≡ j → margin_in i (placed_from P j k l) ≡ k
unfolding placed_from margin_in
margin-head P j k i [] e = rw (eq-eqb i j e)
margin-head P j k i (m ∷ l) e = rw (eq-eqb i j e)

pub margin-tail : (P : Points) (j k i m : ℕ) (l : List ℕ) → (i ≡ j → ⊥)
    → margin_in i (placed_from P j k (m ∷ l)) ≡ margin_in i (placed_from P m (next_margin P j k m) l)
unfolding placed_from margin_in
margin-tail P j k i m l ne = rw (ne_eqb i j ne)

pub next-near : (P : Points) (j k i : ℕ) → P.row j ≤ P.row i + P.h → next_margin P j k i ≡ k + 1
unfolding next_margin
next-near P j k i l = rw (le-leb (P.row j) (P.row i + P.h) l)

pub next-most : (P : Points) (j k i : ℕ) → next_margin P j k i ≤ k + 1
unfolding next_margin
next-most P j k i = decide (leb (P.row j) (P.row i + P.h)) (λ e. rw e (omega arith)) (λ e. rw e (omega arith))

-- behind j in margin column k, whatever is at most h below j stands further out
pub further : (P : Points) (j k i : ℕ) (l : List ℕ) → Sorted P (j ∷ l) → among i l ≡ true → (i ≡ j → ⊥) → P.row j ≤ P.row i + P.h
    → k < margin_in i (placed_from P j k l)
further P j k i [] f e nj b = absurd (among_none i e)
further P j k i (m ∷ l) f e nj b =
    let g : P.row i ≤ P.row m = sorted-le P m i l f.1 e in
    rw (margin-tail P j k i m l nj, next-near P j k m (omega arith))
    (same i m
    (λ q. rw (margin-head P m (k + 1) i l q) (omega arith))
    (λ ne. let ih = further P m (k + 1) i l f.1 (among-rest i m l e ne) ne (omega arith) in omega arith))

-- of two points of the list
pub in_order : (P : Points) (m k i j : ℕ) (l : List ℕ) → Sorted P (m ∷ l) → among i (m ∷ l) ≡ true → among j (m ∷ l) ≡ true
    → P.row j < P.row i → P.row i ≤ P.row j + P.h → margin_in i (placed_from P m k l) < margin_in j (placed_from P m k l)
in_order P m k i j [] f a b lo hi =
    let x : P.row i ≤ P.row m = sorted-le P m i [] f a in
    same j m (λ q. let y : P.row j ≡ P.row m = ap P.row q in absurd (omega arith))
    (λ ne. absurd (among_none j (among-rest j m [] b ne)))
in_order P m k i j (x ∷ l) f a b lo hi =
    let y : P.row i ≤ P.row m = sorted-le P m i (x ∷ l) f a in
    same j m (λ q. let z : P.row j ≡ P.row m = ap P.row q in absurd (omega arith))
    (λ nj. same i m
    (λ q.
    let z : P.row i ≡ P.row m = ap P.row q in
    rw (margin-head P m k i (x ∷ l) q) (further P m k j (x ∷ l) f (among-rest j m (x ∷ l) b nj) nj (omega arith)))
    (λ ni. rw (margin-tail P m k i x l ni, margin-tail P m k j x l nj)
    (in_order P x _ i j l f.1 (among-rest i m (x ∷ l) a ni) (among-rest j m (x ∷ l) b nj) lo hi)))

placed-in-order : (P : Points) (i j : ℕ) (l : List ℕ) → Sorted P l → among i l ≡ true → among j l ≡ true
    → P.row j < P.row i → P.row i ≤ P.row j + P.h → margin_in i (placed P l) < margin_in j (placed P l)
unfolding placed
placed-in-order P i j [] f a b lo hi = absurd (among_none i a)
placed-in-order P i j (m ∷ l) f a b lo hi = in_order P m _ i j l f a b lo hi

-- THE MARGIN LEMMA: of two outside points at most h apart, the lower has the greater margin column.
pub lower-further : (P : Points) (S : Choice) (i j : ℕ) → i < P.n → j < P.n → S i ≡ false → S j ≡ false
    → P.row j < P.row i → P.row i ≤ P.row j + P.h → margin_column P S i < margin_column P S j
unfolding margin_column outside
lower-further P S i j l m a b lo hi =
    placed-in-order P i j
    (outside_below P S P.n) (outside-sorted P S P.n) (outside-lists P S P.n i l a) (outside-lists P S P.n j m b) lo hi
