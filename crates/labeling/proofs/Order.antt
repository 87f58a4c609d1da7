-- The list of outside points is what it should be: just the outside positions, each once, from the highest row down (of one row
-- the smaller column first). And the margin columns without a list: the first, and each next.
-- Assumes nothing.
use Rattle.std.specs.Prelude.{◌≡◌, refl, true, false, ◌⊎◌, List, [], ◌∷◌, ℕ, zero, suc, ◌+◌, ◌≤◌, ◌<◌, ltb, length}
use Rattle.std.proofs.Common.{sym, ◌∙◌, ap, inl, inr, ⊎_elim, arith}
use Rattle.labeling.specs.Points.{Points, Choice, Distinct, before, insert, outside_below, outside}
use Rattle.labeling.specs.Points.{next_margin, placed_from, placed, margin_in, margin_column, among}
use Rattle.labeling.proofs.Decide.{not-both, decide, same, Decides, dec-lt, dec-eq, dec-and, dec-or}
use Rattle.labeling.proofs.Margin.{among-head, among-tail, among-rest, among_none, outside-lists, margin-head, margin-tail}
use Rattle.labeling.specs.Best.{weight_below, one_each}
use Rattle.labeling.specs.Order.{Before, First, Ordered}

pub dec-before : (P : Points) (i j : ℕ) → Decides (before P i j) (Before P i j)
unfolding before
dec-before P i j = dec-or (dec-lt _ _) (dec-and (dec-eq _ _) (dec-lt _ _))

pub before-trans : (P : Points) (i j k : ℕ) → Before P i j → Before P j k → Before P i k
before-trans P i j k (inl a) (inl b) = inl (omega arith)
before-trans P i j k (inl a) (inr b) = inl (omega arith)
before-trans P i j k (inr a) (inl b) = inl (omega arith)
before-trans P i j k (inr a) (inr b) = inr (omega arith)

pub before-asym : (P : Points) (i j : ℕ) → Before P i j → Before P j i → ⊥
before-asym P i j (inl a) (inl b) = omega arith
before-asym P i j (inl a) (inr b) = omega arith
before-asym P i j (inr a) (inl b) = omega arith
before-asym P i j (inr a) (inr b) = omega arith

pub before-total : (P : Points) (i j : ℕ) → (P.row i ≡ P.row j → P.column i ≡ P.column j → ⊥) → before P i j ≡ false → Before P j i
before-total P i j d e =
    decide (ltb (P.row i) (P.row j))
    (λ a. inl ((dec-lt _ _).is a))
    (λ a. same (P.row i) (P.row j)
    (λ q. decide (ltb (P.column j) (P.column i))
    (λ b. inr (q, (dec-lt _ _).is b))
    (λ b. let x : P.column i ≤ P.column j = borrow.Author.Tests.ltb-false _ _ b in
    absurd (not_yet (inr (sym q, (let ne : P.column i ≡ P.column j → ⊥ = d q in omega arith))))))
    (λ ne. let x : P.row j ≤ P.row i = borrow.Author.Tests.ltb-false _ _ a in absurd (not_yet (inl (omega arith)))))
  where
    not_yet : Before P i j → ⊥
    not_yet b = not-both ((dec-before P i j).of b) e

-- JUST THE OUTSIDE POSITIONS

pub insert-is : (P : Points) (i x : ℕ) (l : List ℕ) → among x (insert P i l) ≡ true → (x ≡ i) ⊎ (among x l ≡ true)
unfolding insert
insert-is P i x [] e = same x i (λ q. inl q) (λ ne. absurd (among_none x (among-rest x i [] e ne)))
insert-is P i x (j ∷ l) e =
    decide (before P i j)
    (λ k. let a : among x (i ∷ j ∷ l) ≡ true = rw k at e in same x i (λ q. inl q) (λ ne. inr (among-rest x i (j ∷ l) a ne)))
    (λ k. let a : among x (j ∷ insert P i l) ≡ true = rw k at e in
    same x j (λ q. inr (among-head x j l q))
    (λ ne. ⊎_elim (λ q. inl q) (λ m. inr (among-tail x j l m)) (insert-is P i x l (among-rest x j (insert P i l) a ne))))

pub outside-is : (P : Points) (S : Choice) (m i : ℕ) → among i (outside_below P S m) ≡ true → (i < m) × (S i ≡ false)
unfolding outside_below
outside-is P S zero i e = absurd (among_none i e)
outside-is P S (suc m) i e =
    decide (S m)
    (λ k. let r = outside-is P S m i (rw k at e) in (omega arith, r.1))
    (λ k. new k (insert-is P m i (outside_below P S m) (rw k at e)) (outside-is P S m i))
  where
    new : S m ≡ false → (i ≡ m) ⊎ (among i (outside_below P S m) ≡ true) → (among i (outside_below P S m) ≡ true → (i < m) × (S i ≡ false))
        → (i < suc m) × (S i ≡ false)
    new k (inl q) ih = (omega arith, rw q k)
    new k (inr a) ih = let r = ih a in (omega arith, r.1)

pub insert-ordered : (P : Points) (i : ℕ) (l : List ℕ)
    → ((x : ℕ) → among x l ≡ true → P.row i ≡ P.row x → P.column i ≡ P.column x → ⊥) → Ordered P l → Ordered P (insert P i l)
unfolding insert
insert-ordered P i [] d o = (λ x e. absurd (among_none x e), tt)
insert-ordered P i (j ∷ l) d o =
    decide (before P i j)
    (λ e. rw e (front ((dec-before P i j).is e), o))
    (λ e. rw e (behind (before-total P i j (d j (among-head j j l refl)) e), insert-ordered P i l (λ x a. d x (among-tail x j l a)) o.1))
  where
    front : Before P i j → First P i (j ∷ l)
    front b x a = same x j (λ q. rw q b) (λ ne. before-trans P i j x b (o.0 x (among-rest x j l a ne)))

    behind : Before P j i → First P j (insert P i l)
    behind b x a = ⊎_elim (λ q. rw q b) (o.0 x) (insert-is P i x l a)

pub outside-ordered : (P : Points) (S : Choice) (m : ℕ) → Distinct P → m ≤ P.n → Ordered P (outside_below P S m)
unfolding outside_below
outside-ordered P S zero d l = tt
outside-ordered P S (suc m) d l =
    let ih = outside-ordered P S m d (omega arith) in
    decide (S m) (λ e. rw e ih) (λ e. rw e (insert-ordered P m (outside_below P S m) fresh ih))
  where
    fresh : (x : ℕ) → among x (outside_below P S m) ≡ true → P.row m ≡ P.row x → P.column m ≡ P.column x → ⊥
    fresh x a r c =
        let o : (x < m) × (S x ≡ false) = outside-is P S m x a in
        let q : m ≡ x = d.apart m x (omega arith) (omega arith) r c in
        omega arith

pub insert-length : (P : Points) (i : ℕ) (l : List ℕ) → length (insert P i l) ≡ suc (length l)
unfolding insert
insert-length P i [] = refl
insert-length P i (j ∷ l) = decide (before P i j) (λ e. rw e refl) (λ e. rw e (ap suc (insert-length P i l)))

-- as many as are not inside
pub outside-length : (P : Points) (S : Choice) (m : ℕ) → length (outside_below P S m) + weight_below one_each S m ≡ m
unfolding outside_below weight_below
outside-length P S zero = refl
outside-length P S (suc m) =
    let ih : length (outside_below P S m) + weight_below one_each S m ≡ m = outside-length P S m in
    decide (S m) (λ e. rw e (omega arith)) (λ e. rw e (omega (arith, insert-length P m (outside_below P S m))))

-- a list in order is fixed by its members
pub ordered-unique : (P : Points) (l k : List ℕ) → Ordered P l → Ordered P k
    → ((x : ℕ) → among x l ≡ true → among x k ≡ true) → ((x : ℕ) → among x k ≡ true → among x l ≡ true) → l ≡ k
ordered-unique P [] [] o q f g = refl
ordered-unique P [] (j ∷ k) o q f g = absurd (among_none j (g j (among-head j j k refl)))
ordered-unique P (i ∷ l) [] o q f g = absurd (among_none i (f i (among-head i i l refl)))
ordered-unique P (i ∷ l) (j ∷ k) o q f g =
    let e : i ≡ j =
    same i j (λ e. e)
    (λ ne. absurd (before-asym P i j (o.0 j (among-rest j i l (g j (among-head j j k refl)) (λ z. ne (sym z))))
    (q.0 i (among-rest i j k (f i (among-head i i l refl)) ne)))) in
    let t : l ≡ k = ordered-unique P l k o.1 q.1
    (λ x a.
    among-rest x j k (f x (among-tail x i l a)) (λ z. before-asym P i i (rw (z ∙ sym e) at (o.0 x a)) (rw (z ∙ sym e) at (o.0 x a))))
    (λ x a. among-rest x i l (g x (among-tail x j k a)) (λ z. before-asym P j j (rw (z ∙ e) at (q.0 x a)) (rw (z ∙ e) at (q.0 x a)))) in
    λ d. e d ∷ t d

-- THE MARGIN COLUMNS WITHOUT A LIST

first-zero : (P : Points) (i : ℕ) (l : List ℕ) → Ordered P l → among i l ≡ true → ((x : ℕ) → among x l ≡ true → Before P x i → ⊥)
    → margin_in i (placed P l) ≡ 0
unfolding placed
first-zero P i [] o a f = absurd (among_none i a)
first-zero P i (j ∷ l) o a f =
    same i j (λ q. margin-head P j 0 i l q) (λ ne. absurd (f j (among-head j j l refl) (o.0 i (among-rest i j l a ne))))

next-after : (P : Points) (m k i j : ℕ) (l : List ℕ) → Ordered P (m ∷ l) → among i (m ∷ l) ≡ true
    → among j (m ∷ l) ≡ true → Before P i j → ((x : ℕ) → among x (m ∷ l) ≡ true → Before P i x → Before P x j → ⊥)
    → margin_in j (placed_from P m k l) ≡ next_margin P i (margin_in i (placed_from P m k l)) j
next-after P m k i j [] o a b u f =
    same i m (λ q. same j m
    (λ z. absurd (before-asym P i j u (rw (z ∙ sym q) (rw (z ∙ sym q) at u))))
    (λ ne. absurd (among_none j (among-rest j m [] b ne)))) (λ ne. absurd (among_none i (among-rest i m [] a ne)))
next-after P m k i j (x ∷ l) o a b u f =
    same j m
    (λ q. same i m
    (λ z. absurd (before-asym P i j u (rw (q ∙ sym z) (rw (q ∙ sym z) at u))))
    (λ ne. absurd (before-asym P i j u (rw q (o.0 i (among-rest i m (x ∷ l) a ne))))))
    (λ nj. let bj = among-rest j m (x ∷ l) b nj in
    same i m
    (λ q. same j x
    (λ z. rw (margin-head P m k i (x ∷ l) q, margin-tail P m k j x l nj, margin-head P x (next_margin P m k x) j l z, q, z))
    (λ nx. absurd (f x (among-tail x m (x ∷ l) (among-head x x l refl)) (rw q (o.0 x (among-head x x l refl)))
    (o.1.0 j (among-rest j x l bj nx)))))
    (λ ni. rw (margin-tail P m k i x l ni, margin-tail P m k j x l nj)
    (next-after P x _ i j l o.1 (among-rest i m (x ∷ l) a ni) bj u (λ y c. f y (among-tail y m (x ∷ l) c)))))

placed-next : (P : Points) (i j : ℕ) (l : List ℕ) → Ordered P l → among i l ≡ true → among j l ≡ true
    → Before P i j → ((x : ℕ) → among x l ≡ true → Before P i x → Before P x j → ⊥)
    → margin_in j (placed P l) ≡ next_margin P i (margin_in i (placed P l)) j
unfolding placed
placed-next P i j [] o a b u f = absurd (among_none i a)
placed-next P i j (m ∷ l) o a b u f = next-after P m 0 i j l o a b u f

module _ (P : Points) (S : Choice) (d : Distinct P) where
  -- an outside point with no outside point before it has margin column 0
  pub margin-first : (i : ℕ) → i < P.n → S i ≡ false → ((x : ℕ) → x < P.n → S x ≡ false → Before P x i → ⊥) → margin_column P S i ≡ 0
  unfolding margin_column outside
  margin-first i l a f =
      first-zero P i (outside_below P S P.n) (outside-ordered P S P.n d (omega arith)) (outside-lists P S P.n i l a)
      (λ x e. let o = outside-is P S P.n x e in f x o.0 o.1)

  -- of two outside points with no outside point between, the second has the column next to the first's
  pub margin-next : (i j : ℕ) → i < P.n → j < P.n → S i ≡ false → S j ≡ false → Before P i j
      → ((x : ℕ) → x < P.n → S x ≡ false → Before P i x → Before P x j → ⊥) → margin_column P S j ≡ next_margin P i (margin_column P S i) j
  unfolding margin_column outside
  margin-next i j l m a b u f =
      placed-next P i j (outside_below P S P.n) (outside-ordered P S P.n d (omega arith))
      (outside-lists P S P.n i l a) (outside-lists P S P.n j m b) u
      (λ x e. let o = outside-is P S P.n x e in f x o.0 o.1)
