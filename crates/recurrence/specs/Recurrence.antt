-- The recurrence: the greatest weight of a choice without conflicts, for points in height order. Definitions only.
-- Assumes nothing.
use Rattle.std.specs.Prelude.{◌≡◌, Bool, true, false, cond, not, ◌&&◌, ◌||◌, ℕ, zero, suc, ◌+◌, ◌≤◌, ◌<◌, max, ltb, leb, eqb}

-- The points 1 to n in height order: by row, then by column, ascending. 0 is the lower boundary and n + 1 the upper one.
-- at_rank t is the point of rank t in right order (by column, then by row, ascending; 0 to n - 1), and rank is its inverse.
-- A point that isn't allowed may not be inside. (A rank here is a place in right order; a rank of document 02 (e) is part of a weight.)
pub record Heights : Type 0 where
  pub n : ℕ
  pub w : ℕ
  pub h : ℕ
  pub column : ℕ → ℕ
  pub row : ℕ → ℕ
  pub weight : ℕ → ℕ
  pub allowed : ℕ → Bool
  pub at_rank : ℕ → ℕ
  pub rank : ℕ → ℕ

pub record Point (H : Heights) (i : ℕ) : Type 0 where
  pub low : 1 ≤ i
  pub high : i ≤ H.n

-- Both orders are what they should be, and no two points share a pixel.
pub record Sorted (H : Heights) : Type 0 where
  pub w-pos : 1 ≤ H.w
  pub h-pos : 1 ≤ H.h
  pub rows : (i j : ℕ) → Point H i → Point H j → i < j → H.row i ≤ H.row j
  pub beside : (i j : ℕ) → Point H i → Point H j → i < j → H.row i ≡ H.row j → H.column i < H.column j
  pub columns : (i j : ℕ) → Point H i → Point H j → H.rank i < H.rank j → H.column i ≤ H.column j
  pub ties : (i j : ℕ) → Point H i → Point H j → H.rank i < H.rank j → j < i → H.column i < H.column j
  pub at_rank-point : (t : ℕ) → t < H.n → Point H (H.at_rank t)
  pub rank-at_rank : (t : ℕ) → t < H.n → H.rank (H.at_rank t) ≡ t
  pub at_rank-rank : (i : ℕ) → Point H i → H.at_rank (H.rank i) ≡ i
  pub rank_below : (i : ℕ) → Point H i → H.rank i < H.n

-- CONFLICTS (those of labeling's Conflicts.antt, for points in height order)

-- The labels of i and j share a pixel.
pub record Overlap (H : Heights) (i j : ℕ) : Type 0 where
  pub left : H.column i < H.column j + H.w
  pub right : H.column j < H.column i + H.w
  pub below : H.row i < H.row j + H.h
  pub above : H.row j < H.row i + H.h

-- The label of i shares a pixel with the leader of j.
pub record Hits (H : Heights) (i j : ℕ) : Type 0 where
  pub from : H.row i ≤ H.row j
  pub to : H.row j < H.row i + H.h
  pub left : H.column i ≤ H.column j

-- A choice without conflicts, in which every inside point is allowed.
pub record Free (H : Heights) (S : ℕ → Bool) : Type 0 where
  pub labels : (i j : ℕ) → Point H i → Point H j → (i ≡ j → ⊥) → S i ≡ true → S j ≡ true → Overlap H i j → ⊥
  pub leaders : (i j : ℕ) → Point H i → Point H j → S i ≡ true → S j ≡ false → Hits H i j → ⊥
  pub rows : (i j : ℕ) → Point H i → Point H j → (i ≡ j → ⊥) → S i ≡ false → S j ≡ false → H.row i ≡ H.row j → ⊥
  pub allowed : (i : ℕ) → Point H i → S i ≡ true → H.allowed i ≡ true

-- The weight of the inside points among 1 to m.
unfoldable pub total : Heights → (ℕ → Bool) → ℕ → ℕ
total H S zero = 0
total H S (suc m) = cond (S (suc m)) (H.weight (suc m)) 0 + total H S m

-- TESTS

-- p is strictly between a and b.
unfoldable pub between : ℕ → ℕ → ℕ → Bool
between a p b = ltb a p && ltb p b

-- The labels of i and j share a pixel.
unfoldable pub overlaps : Heights → ℕ → ℕ → Bool
overlaps H i j =
    ltb (H.column i) (H.column j + H.w) && (ltb (H.column j) (H.column i + H.w)
    && (ltb (H.row i) (H.row j + H.h) && ltb (H.row j) (H.row i + H.h)))

-- The point i below p has a label that reaches over p's row, on the right of p (E(p)).
unfoldable pub reaches_over : Heights → ℕ → ℕ → Bool
reaches_over H p i =
    leb 1 i && (ltb i p && (ltb (H.row p) (H.row i + H.h)
    && (ltb (H.column p) (H.column i) && ltb (H.column i) (H.column p + H.w))))

-- The greatest i of 1 to m that passes, or 0.
unfoldable pub greatest : (ℕ → Bool) → ℕ → ℕ
greatest f zero = 0
greatest f (suc m) = cond (f (suc m)) (suc m) (greatest f m)

-- Every i of 1 to m passes.
unfoldable pub every_point : (ℕ → Bool) → ℕ → Bool
every_point f zero = true
every_point f (suc m) = f (suc m) && every_point f m

-- i is above a, and its label reaches over p.
unfoldable pub reaches_above : Heights → ℕ → ℕ → ℕ → Bool
reaches_above H a p i = ltb a i && reaches_over H p i

-- The label that reaches over p: the topmost such point above a; else q, if its label does; else 0.
unfoldable pub reach : Heights → ℕ → ℕ → ℕ → ℕ
reach H a p q = let r = greatest (reaches_above H a p) p in cond (eqb r 0) (cond (reaches_over H p q) q 0) r

-- j is strictly between a and b, right of the point of rank t, and its label overlaps that of i.
unfoldable pub bars : Heights → ℕ → ℕ → ℕ → ℕ → ℕ → Bool
bars H t a b i j = ltb a j && (ltb j b && (ltb t (H.rank j) && overlaps H i j))

-- The point of rank t may be inside in the slab (a, b, q): it is allowed; its label ends below b's leader, if b is a point; and it
-- overlaps neither q's label, if q isn't 0, nor the label of a point strictly between a and b that is right of it.
unfoldable pub may_be_inside : Heights → ℕ → ℕ → ℕ → ℕ → Bool
may_be_inside H t a b q =
    let p = H.at_rank t in
    H.allowed p && ((ltb H.n b || leb (H.row p + H.h) (H.row b))
    && ((eqb q 0 || not (overlaps H p q))
    && every_point (λ j. not (bars H t a b p j)) H.n))

-- p isn't in the row of b's leader.
unfoldable pub rows_differ : Heights → ℕ → ℕ → Bool
rows_differ H p b = ltb H.n b || not (eqb (H.row p) (H.row b))

-- VALUES: 0 where a slab has no choice ("none"), and one more than the weight where it has.

-- A value with one more point of weight x inside.
unfoldable pub plus : ℕ → ℕ → ℕ
plus x zero = 0
plus x (suc y) = x + suc y

-- The values of two parts together.
unfoldable pub join : ℕ → ℕ → ℕ
join zero y = 0
join (suc x) y = plus x y

-- THE RECURRENCE. In the slab (a, b, q) the points strictly between a and b of rank t or more are inside; the value is that of the
-- best choice of the others. q is 0, or the inside point below a whose label reaches over a.
unfoldable pub value : Heights → ℕ → ℕ → ℕ → ℕ → ℕ
value H zero a b q = 1
value H (suc t) a b q =
    let p = H.at_rank t in
    cond (between a p b)
    (max
    (cond (rows_differ H p b) (join (value H t a p q) (value H t p b (reach H a p q))) 0)
    (cond (may_be_inside H t a b q) (plus (H.weight p) (value H t a b q)) 0))
    (value H t a b q)

-- What the point of rank t gives outside, and inside.
unfoldable pub out_value : Heights → ℕ → ℕ → ℕ → ℕ → ℕ
out_value H t a b q =
    let p = H.at_rank t in cond (rows_differ H p b) (join (value H t a p q) (value H t p b (reach H a p q))) 0

unfoldable pub in_value : Heights → ℕ → ℕ → ℕ → ℕ → ℕ
in_value H t a b q = cond (may_be_inside H t a b q) (plus (H.weight (H.at_rank t)) (value H t a b q)) 0

-- The recovery puts the point of rank t inside: that gives more.
unfoldable pub takes_in : Heights → ℕ → ℕ → ℕ → ℕ → Bool
takes_in H t a b q = ltb (out_value H t a b q) (in_value H t a b q)

-- The recovered choice of the points below rank t in the slab (a, b, q).
unfoldable pub recovered : Heights → ℕ → ℕ → ℕ → ℕ → ℕ → Bool
recovered H zero a b q i = false
recovered H (suc t) a b q i =
    let p = H.at_rank t in
    cond (between a p b)
    (cond (takes_in H t a b q)
    (eqb i p || recovered H t a b q i)
    (cond (ltb i p) (recovered H t a p q i) (ltb p i && recovered H t p b (reach H a p q) i)))
    (recovered H t a b q i)

-- The weight of a choice on the points strictly between a and b of rank less than t.
unfoldable pub open_weight : Heights → (ℕ → Bool) → ℕ → ℕ → ℕ → ℕ
open_weight H S zero a b = 0
open_weight H S (suc t) a b = let p = H.at_rank t in cond (between a p b && S p) (H.weight p) 0 + open_weight H S t a b
