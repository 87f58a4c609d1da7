-- Two points share a pixel exactly if they conflict; validity by pixels is validity by arithmetic.
-- Assumes nothing.
use Rattle.std.specs.Prelude.{◌≡◌, refl, true, false, ◌↔◌, ℕ, ◌+◌, ◌*◌, ◌≤◌, ◌<◌, max}
use Rattle.std.proofs.Common.{inl, inr, mul-le-mul_right, arith}
use Rattle.labeling.specs.Points.{Points, Choice, DistinctRows, Pixel, at_column, in_margin, margin_column}
use Rattle.labeling.specs.Marks.{Label, Leader, Outer, Marks, Shared, Valid}
use Rattle.labeling.specs.Conflicts.{Overlap, Hits, Conflict, Free, valid_b}
use Rattle.labeling.proofs.Decide.{not-both, decide, same, Decides}
use Rattle.labeling.proofs.Tests.{dec-free}
use Rattle.labeling.proofs.Margin.{lower-further}
use Rattle.labeling.specs.Pixels.{Out}

-- A SHARED PIXEL IS A CONFLICT

in-in : (P : Points) (i j : ℕ) (p : Pixel) → Label P i p → Label P j p → Overlap P i j
in-in P i j (at_column x y) a b = omega arith
in-in P i j (in_margin d y) a b = absurd a

in-out : (P : Points) (k i j : ℕ) (p : Pixel) → Label P i p → Out P k j p → Hits P i j
in-out P k i j (at_column x y) a (inl b) = omega arith
in-out P k i j (at_column x y) a (inr b) = absurd b
in-out P k i j (in_margin d y) a b = absurd a

module _ (P : Points) (i j k m : ℕ) (i-over : P.row j < P.row i → P.row i < P.row j + P.h → k < m)
    (j-over : P.row i < P.row j → P.row j < P.row i + P.h → m < k) where
  -- the leader of i and the outer label of j
  leader-outer : (d y : ℕ) → Leader P k i (in_margin d y) → Outer P m j (in_margin d y) → P.row i ≡ P.row j
  leader-outer d y a b =
      same (P.row i) (P.row j) (λ e. e)
      (λ ne.
      let l : k < m = i-over (omega arith) (omega arith) in
      let t : k * P.w ≤ m * P.w = mul-le-mul_right P.w (omega arith) in
      absurd (omega arith))

  outer-leader : (d y : ℕ) → Outer P k i (in_margin d y) → Leader P m j (in_margin d y) → P.row i ≡ P.row j
  outer-leader d y a b =
      same (P.row i) (P.row j) (λ e. e)
      (λ ne.
      let l : m < k = j-over (omega arith) (omega arith) in
      let t : m * P.w ≤ k * P.w = mul-le-mul_right P.w (omega arith) in
      absurd (omega arith))

  outer-outer : (d y : ℕ) → Outer P k i (in_margin d y) → Outer P m j (in_margin d y) → P.row i ≡ P.row j
  outer-outer d y a b =
      decide (lib.Dec.ltb (P.row i) (P.row j))
      (λ e.
      let u : P.row i < P.row j = borrow.Author.Tests.ltb-true _ _ e in
      let l : m < k = j-over (omega arith) (omega arith) in
      let t : (m + 1) * P.w ≤ k * P.w = mul-le-mul_right P.w (omega arith) in
      absurd (omega arith))
      (λ e.
      let u : P.row j ≤ P.row i = borrow.Author.Tests.ltb-false _ _ e in
      same (P.row i) (P.row j) (λ e. e)
      (λ ne.
      let l : k < m = i-over (omega arith) (omega arith) in
      let t : (k + 1) * P.w ≤ m * P.w = mul-le-mul_right P.w (omega arith) in
      absurd (omega arith)))

  out-out : (p : Pixel) → Out P k i p → Out P m j p → P.row i ≡ P.row j
  out-out (at_column x y) (inl a) (inl b) = omega arith
  out-out (at_column x y) (inl a) (inr b) = absurd b
  out-out (at_column x y) (inr a) b = absurd a
  out-out (in_margin d y) (inl a) (inl b) = omega arith
  out-out (in_margin d y) (inl a) (inr b) = leader-outer d y a b
  out-out (in_margin d y) (inr a) (inl b) = outer-leader d y a b
  out-out (in_margin d y) (inr a) (inr b) = outer-outer d y a b

-- what the marks and a conflict are, by where the points are labeled
module _ (P : Points) (S : Choice) (i : ℕ) (p : Pixel) where
  pub inside_is : S i ≡ true → Marks P S i p → Label P i p
  unfolding Marks
  inside_is e m = rw e at m

  pub inside_of : S i ≡ true → Label P i p → Marks P S i p
  unfolding Marks
  inside_of e m = rw e m

  pub outside-is : S i ≡ false → Marks P S i p → Out P (margin_column P S i) i p
  unfolding Marks
  outside-is e m = rw e at m

  outside_of : S i ≡ false → Out P (margin_column P S i) i p → Marks P S i p
  unfolding Marks
  outside_of e m = rw e m

-- (i) outside points of different rows never share a pixel
pub outside-apart : (P : Points) (S : Choice) (p : Pixel) (i j : ℕ)
    → i < P.n → j < P.n → S i ≡ false → S j ≡ false → Marks P S i p → Marks P S j p → P.row i ≡ P.row j
outside-apart P S p i j l m a b x y =
    out-out P i j (margin_column P S i) (margin_column P S j) (λ lo hi. lower-further P S i j l m a b lo (omega arith))
    (λ lo hi. lower-further P S j i m l b a lo (omega arith)) p (outside-is P S i p a x) (outside-is P S j p b y)

-- (ii) two points share a marked pixel exactly if they conflict (ConflictTable.antt: by the table of height order)
pub shared-conflict : (P : Points) (S : Choice) (p : Pixel) (i j : ℕ) → i < P.n → j < P.n → Marks P S i p → Marks P S j p
    → Conflict P S i j
unfolding Conflict
shared-conflict P S p i j l m x y =
    decide (S i)
    (λ a. decide (S j)
    (λ b. rw (a, b) (in-in P i j p (inside_is P S i p a x) (inside_is P S j p b y)))
    (λ b. rw (a, b) (in-out P _ i j p (inside_is P S i p a x) (outside-is P S j p b y))))
    (λ a. decide (S j)
    (λ b. rw (a, b) (in-out P _ j i p (inside_is P S j p b y) (outside-is P S i p a x)))
    (λ b. rw (a, b) (outside-apart P S p i j l m a b x y)))

pub conflict-shared : (P : Points) (S : Choice) (i j : ℕ) → 1 ≤ P.w → Conflict P S i j → Shared P S i j
unfolding Conflict
conflict-shared P S i j pos c =
    decide (S i)
    (λ a. decide (S j)
    (λ b. let o : Overlap P i j = rw (a, b) at c in
    let p = at_column (max (P.column i) (P.column j)) (max (P.row i) (P.row j)) in
    (p, inside_of P S i p a (omega arith), inside_of P S j p b (omega arith)))
    (λ b. let o : Hits P i j = rw (a, b) at c in
    let p = at_column (P.column i) (P.row j) in (p, inside_of P S i p a (omega arith), outside_of P S j p b (inl (omega arith)))))
    (λ a. decide (S j)
    (λ b. let o : Hits P j i = rw (a, b) at c in
    let p = at_column (P.column j) (P.row i) in (p, outside_of P S i p a (inl (omega arith)), inside_of P S j p b (omega arith)))
    (λ b. let o : P.row i ≡ P.row j = rw (a, b) at c in
    let p = at_column 0 (P.row i) in (p, outside_of P S i p a (inl (omega arith)), outside_of P S j p b (inl (omega arith)))))

pub shared-iff-conflict : (P : Points) (S : Choice) (i j : ℕ) → 1 ≤ P.w → i < P.n → j < P.n → Shared P S i j ↔ Conflict P S i j
shared-iff-conflict P S i j pos l m = (λ s. shared-conflict P S s.0 i j l m s.1 s.2, conflict-shared P S i j pos)

-- so valid is exactly "no pair conflicts and no inside label leaves the map", and a test decides it
pub free-valid : (P : Points) (S : Choice) → Free P S → Valid P S
free-valid P S f = record { apart = λ p i j l m ne x y. f.apart i j l m ne (shared-conflict P S p i j l m x y); within = f.within }

pub valid-free : (P : Points) (S : Choice) → 1 ≤ P.w → Valid P S → Free P S
valid-free P S pos v = record {
  apart = λ i j l m ne c. let s = conflict-shared P S i j pos c in v.apart s.0 i j l m ne s.1 s.2;
  within = v.within;
}

pub valid-iff-free : (P : Points) (S : Choice) → 1 ≤ P.w → Valid P S ↔ Free P S
valid-iff-free P S pos = (valid-free P S pos, free-valid P S)

pub dec-valid : (P : Points) (S : Choice) → 1 ≤ P.w → Decides (valid_b P S) (Valid P S)
dec-valid P S pos = record { is = λ e. free-valid P S ((dec-free P S).is e); of = λ v. (dec-free P S).of (valid-free P S pos v) }

-- (iii) "Two leaders in one row share pixels, so at most one point of a row can be outside" (document 02 (c)).
pub one-outside-a-row : (P : Points) (S : Choice) (i j : ℕ) → Valid P S → i < P.n → j < P.n → S i ≡ false → S j ≡ false
    → P.row i ≡ P.row j → i ≡ j
one-outside-a-row P S i j v l m a b e =
    let p = at_column 0 (P.row i) in
    same i j (λ q. q)
    (λ ne. absurd (v.apart p i j l m ne (outside_of P S i p a (inl (omega arith))) (outside_of P S j p b (inl (omega arith)))))

-- (iv) Where rows are distinct, the choice with nothing inside is valid.
pub nothing-inside : (P : Points) → DistinctRows P → Valid P (λ i. false)
unfolding Conflict
nothing-inside P d = free-valid P (λ i. false) (record { apart = λ i j l m ne c. ne (d.apart i j l m c); within = λ i l t. absurd (not-both t refl) })
