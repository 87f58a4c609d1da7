-- The outside positions read from height order downwards are the outside points from the highest row down.
-- Assumes nothing.
use Rattle.std.specs.Prelude.{◌≡◌, ℕ, zero, suc, ◌-◌, ◌<◌, ◌≤◌, Bool, true, false, ◌∷◌, ◌≢◌, nat_lt, refl}
use Rattle.std.proofs.Common.{sym, ◌∙◌, ap, inl, ltb-true, ltb-false, arith}
use Rattle.labeling.specs.Points.{Points, Choice, Distinct, outside_below, outside, among}
use Rattle.recurrence.specs.Recurrence.{Heights, Point, Sorted}
use Rattle.labeling.proofs.Decide.{decide, same}
use Rattle.labeling.proofs.Margin.{among-head, among-tail, among-rest, among_none, outside-lists}
use Rattle.labeling.specs.Order.{Before, First, Ordered}
use Rattle.labeling.proofs.Order.{outside-is, outside-ordered, ordered-unique}
use Rattle.recurrence.specs.Positions.{Arranged}
use Rattle.optimum.specs.Split.{outside_down}

-- THE LIST

-- one point further down
pub down-inside : (S : Choice) (position : ℕ → ℕ) (i : ℕ) → 0 < i → S (position i) ≡ true
    → outside_down S position i ≡ outside_down S position (i - 1)
unfolding outside_down
down-inside S position zero h e = absurd (omega arith)
down-inside S position (suc i) h e = let k : suc i - 1 ≡ i = omega arith in rw (k, e)

pub down-outside : (S : Choice) (position : ℕ → ℕ) (i : ℕ) → 0 < i → S (position i) ≡ false
    → outside_down S position i ≡ position i ∷ outside_down S position (i - 1)
unfolding outside_down
down-outside S position zero h e = absurd (omega arith)
down-outside S position (suc i) h e = let k : suc i - 1 ≡ i = omega arith in rw (k, e)

-- what it lists
pub down_is : (S : Choice) (position : ℕ → ℕ) (m x : ℕ) → among x (outside_down S position m) ≡ true
    → (i : ℕ) × (1 ≤ i) × (i ≤ m) × (position i ≡ x) × (S x ≡ false)
unfolding outside_down
down_is S position zero x a = absurd (among_none x a)
down_is S position (suc m) x a =
    decide (S (position (suc m)))
    (λ e. further (down_is S position m x (rw e at a)))
    (λ e.
    let b : among x (position (suc m) ∷ outside_down S position m) ≡ true = rw e at a in
    same x (position (suc m))
    (λ q. (suc m, omega arith, omega arith, sym q, rw q e))
    (λ ne. further (down_is S position m x (among-rest x (position (suc m)) (outside_down S position m) b ne))))
  where
    further : (i : ℕ) × (1 ≤ i) × (i ≤ m) × (position i ≡ x) × (S x ≡ false)
        → (i : ℕ) × (1 ≤ i) × (i ≤ suc m) × (position i ≡ x) × (S x ≡ false)
    further f = (f.0, f.1, omega (arith, f.2), f.3, f.4)

pub down-lists : (S : Choice) (position : ℕ → ℕ) (m i : ℕ) → 1 ≤ i → i ≤ m → S (position i) ≡ false
    → among (position i) (outside_down S position m) ≡ true
unfolding outside_down
down-lists S position zero i a b e = absurd (omega arith)
down-lists S position (suc m) i a b e =
    same i (suc m)
    (λ q.
    let z : S (position (suc m)) ≡ false = rw q at e in
    rw (z, q) (among-head (position (suc m)) (position (suc m)) (outside_down S position m) refl))
    (λ ne.
    let ih : among (position i) (outside_down S position m) ≡ true = down-lists S position m i a (omega arith) e in
    decide (S (position (suc m))) (λ k. rw k ih) (λ k. rw k (among-tail (position i) (position (suc m)) (outside_down S position m) ih)))

module _ {P : Points} {v : ℕ → ℕ} {f : ℕ → Bool} {H : Heights} {position : ℕ → ℕ} (A : Arranged P v f H position) (s : Sorted H) where
  point : (i : ℕ) → 1 ≤ i → i ≤ P.n → Point H i
  point i a b = record { low = a; high = omega (arith, A.n) }

  -- no two points share a pixel
  apart : Distinct P
  apart = record { apart = λ i j a b r c. pixel i j r c (A.each i a) (A.each j b) }
    where
      lower : (i j : ℕ) → Point H i → Point H j → i < j → P.row (position i) ≡ P.row (position j)
          → P.column (position i) ≢ P.column (position j)
      lower i j a b l r c =
          let u : H.row i ≡ H.row j = A.row i a ∙ r ∙ sym (A.row j b) in
          let w : H.column i < H.column j = s.beside i j a b l u in
          omega (arith, A.column i a, A.column j b)

      pixel : (x y : ℕ) → P.row x ≡ P.row y → P.column x ≡ P.column y → (i : ℕ) × Point H i × (position i ≡ x)
          → (j : ℕ) × Point H j × (position j ≡ y) → x ≡ y
      pixel x y r c (i, a, e) (j, b, f) =
          let r' : P.row (position i) ≡ P.row (position j) = ap P.row e ∙ r ∙ sym (ap P.row f) in
          let c' : P.column (position i) ≡ P.column (position j) = ap P.column e ∙ c ∙ sym (ap P.column f) in
          same i j
          (λ q. sym e ∙ ap position q ∙ f)
          (λ ne. decide (nat_lt i j)
          (λ k. absurd (lower i j a b (ltb-true i j k) r' c'))
          (λ k. let g : j ≤ i = ltb-false i j k in absurd (lower j i b a (omega arith) (sym r') (sym c'))))

  module _ (S : Choice) (rows : (i j : ℕ) → i < P.n → j < P.n → S i ≡ false → S j ≡ false → P.row i ≡ P.row j → i ≡ j) where
    down-first : (m : ℕ) → suc m ≤ P.n → S (position (suc m)) ≡ false → First P (position (suc m)) (outside_down S position m)
    down-first m l e x a = first (down_is S position m x a)
      where
        first : (i : ℕ) × (1 ≤ i) × (i ≤ m) × (position i ≡ x) × (S x ≡ false) → Before P (position (suc m)) x
        first (i, lo, hi, q, f) =
            let a : Point H i = point i lo (omega arith) in
            let b : Point H (suc m) = point (suc m) (omega arith) l in
            let r : H.row i ≤ H.row (suc m) = s.rows i (suc m) a b (omega arith) in
            let u : H.row i ≡ P.row x = A.row i a ∙ ap P.row q in
            let z : H.row (suc m) ≡ P.row (position (suc m)) = A.row (suc m) b in
            let x< : x < P.n = rw q at (A.below i a) in
            let p< : position (suc m) < P.n = A.below (suc m) b in
            let ne : P.row x ≡ P.row (position (suc m)) → ⊥ =
            λ y. (let g : i ≡ suc m = A.once i (suc m) a b (q ∙ rows x (position (suc m)) x< p< f e y) in omega arith) in
            inl (omega arith)

    down-ordered : (m : ℕ) → m ≤ P.n → Ordered P (outside_down S position m)
    unfolding outside_down
    down-ordered zero l = tt
    down-ordered (suc m) l =
        let ih = down-ordered m (omega arith) in
        decide (S (position (suc m))) (λ e. rw e ih) (λ e. rw e (down-first m l e, ih))

    -- THE OUTSIDE POSITIONS, read from height order downwards
    pub down-outside-points : outside_down S position P.n ≡ outside P S
    unfolding outside
    down-outside-points =
        ordered-unique P (outside_down S position P.n) (outside_below P S P.n)
        (down-ordered P.n (omega arith)) (outside-ordered P S P.n apart (omega arith))
        (λ x a. there x (down_is S position P.n x a))
        (λ x a. back x (outside-is P S P.n x a))
      where
        there : (x : ℕ) → (i : ℕ) × (1 ≤ i) × (i ≤ P.n) × (position i ≡ x) × (S x ≡ false) → among x (outside_below P S P.n) ≡ true
        there x (i, lo, hi, q, f) = outside-lists P S P.n x (rw q at (A.below i (point i lo hi))) f

        back : (x : ℕ) → (x < P.n) × (S x ≡ false) → among x (outside_down S position P.n) ≡ true
        back x (l, f) = found (A.each x l)
          where
            found : (i : ℕ) × Point H i × (position i ≡ x) → among x (outside_down S position P.n) ≡ true
            found (i, p, q) = rw q at (down-lists S position P.n i p.low (omega (arith, A.n, p.high)) (rw q f))
