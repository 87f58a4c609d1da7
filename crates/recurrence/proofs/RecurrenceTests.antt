-- The tests of Recurrence.antt against the facts that they test, and one equation for each branch of its recursions.
-- Assumes nothing.
use Rattle.std.specs.Prelude.{◌≡◌, refl, Bool, true, false, cond, ◌&&◌, ◌||◌, ltb, eqb}
use Rattle.std.proofs.Math.Bool.{not}
use Prim.Native.Nat.{ℕ, zero, suc, ◌+◌, ◌≤◌, ◌<◌, max}
use Rattle.std.proofs.Common.{arith}
use Rattle.labeling.proofs.Decide.{not-both, decide, same, Decides, dec-lt, dec-le, dec-eq, dec-true, dec-and}
use Rattle.labeling.proofs.Decide.{dec-not, and_left, and_right, and_both, dec-false, dec-map, dec-if-le, dec-if-pos}
use Rattle.recurrence.specs.Recurrence.{Heights, Overlap, between, overlaps, reaches_over, greatest}
use Rattle.recurrence.specs.Recurrence.{every_point, reaches_above, reach, bars, may_be_inside, rows_differ}
use Rattle.recurrence.specs.Recurrence.{plus, join, value, out_value, in_value, takes_in, recovered, open_weight}
use Rattle.recurrence.specs.RecurrenceTests.{Between, Reaches, Reached, newer, nobody, older, MayBeInside, CanOut, CanIn}

-- TESTS OF SEVERAL POINTS

-- Every point passes exactly if the fact holds of every point.
pub dec-every-point : (f : ℕ → Bool) (F : ℕ → Type 0) (m : ℕ) → ((i : ℕ) → Decides (f i) (F i))
    → Decides (every_point f m) ((i : ℕ) → 1 ≤ i → i ≤ m → F i)
unfolding every_point
dec-every-point f F m d = record { is = every-is m; of = every_of m }
  where
    every-is : (m : ℕ) → every_point f m ≡ true → (i : ℕ) → 1 ≤ i → i ≤ m → F i
    every-is zero e i l u = absurd (omega arith)
    every-is (suc m) e i l u =
        same i (suc m) (λ k. rw k ((d (suc m)).is (and_left _ _ e))) (λ k. every-is m (and_right (f (suc m)) _ e) i l (omega arith))

    every_of : (m : ℕ) → ((i : ℕ) → 1 ≤ i → i ≤ m → F i) → every_point f m ≡ true
    every_of zero k = refl
    every_of (suc m) k = and_both _ _ ((d (suc m)).of (k (suc m) (omega arith) (omega arith))) (every_of m (λ i l u. k i l (omega arith)))

-- The greatest that passes is at most m.
pub greatest-le : (f : ℕ → Bool) (m : ℕ) → greatest f m ≤ m
unfolding greatest
greatest-le f zero = omega arith
greatest-le f (suc m) = decide (f (suc m)) (λ e. rw e (omega arith)) (λ e. rw e (let ih = greatest-le f m in omega arith))

-- It passes, unless it is 0.
pub greatest-is : (f : ℕ → Bool) (m : ℕ) → 1 ≤ greatest f m → f (greatest f m) ≡ true
unfolding greatest
greatest-is f zero k = absurd (omega arith)
greatest-is f (suc m) k = decide (f (suc m)) (λ e. rw e e) (λ e. rw e (greatest-is f m (rw e at k)))

-- No point that passes is greater.
pub greatest-most : (f : ℕ → Bool) (m i : ℕ) → i ≤ m → f i ≡ true → i ≤ greatest f m
unfolding greatest
greatest-most f zero i u e = omega arith
greatest-most f (suc m) i u e =
    decide (f (suc m)) (λ k. rw k u)
    (λ k. rw k (greatest-most f m i (same i (suc m) (λ z. absurd (not-both e (rw z k))) (λ z. omega arith)) e))

-- Two tests that agree on 1 to m have the same greatest.
pub greatest-same : (f g : ℕ → Bool) (m : ℕ) → ((i : ℕ) → 1 ≤ i → i ≤ m → f i ≡ g i) → greatest f m ≡ greatest g m
unfolding greatest
greatest-same f g zero e = refl
greatest-same f g (suc m) e = rw (e (suc m) (omega arith) (omega arith), greatest-same f g m (λ i k l. e i k (omega arith)))

-- `between` tests it.
pub dec-between : (a p b : ℕ) → Decides (between a p b) (Between a p b)
unfolding between
dec-between a p b = dec-map (λ x. record { low = x.0; high = x.1 }) (λ x. (x.low, x.high)) (dec-and (dec-lt a p) (dec-lt p b))

module _ (H : Heights) where
  -- `overlaps` tests that two labels share a pixel.
  pub dec-overlaps : (i j : ℕ) → Decides (overlaps H i j) (Overlap H i j)
  unfolding overlaps
  dec-overlaps i j =
      dec-map
      (λ x. record { left = x.0; right = x.1.0; below = x.1.1.0; above = x.1.1.1 })
      (λ x. (x.left, (x.right, (x.below, x.above))))
      (dec-and (dec-lt _ _) (dec-and (dec-lt _ _) (dec-and (dec-lt _ _) (dec-lt _ _))))

  -- `reaches_over` tests that a label reaches over p.
  pub dec-reaches : (p i : ℕ) → Decides (reaches_over H p i) (Reaches H p i)
  unfolding reaches_over
  dec-reaches p i =
      dec-map
      (λ x. record { low = x.0; high = x.1.0; over = x.1.1.0; right = x.1.1.1.0; near = x.1.1.1.1 })
      (λ x. (x.low, (x.high, (x.over, (x.right, x.near)))))
      (dec-and (dec-le _ _) (dec-and (dec-lt _ _) (dec-and (dec-lt _ _) (dec-and (dec-lt _ _) (dec-lt _ _)))))

  -- `bars` tests that j is strictly between a and b, right of the point of rank t, and overlaps i.
  pub dec-bars : (t a b i j : ℕ) → Decides (bars H t a b i j) ((a < j) × ((j < b) × ((t < H.rank j) × Overlap H i j)))
  unfolding bars
  dec-bars t a b i j = dec-and (dec-lt _ _) (dec-and (dec-lt _ _) (dec-and (dec-lt _ _) (dec-overlaps i j)))

  -- `may_be_inside` tests that the point of rank t may be inside.
  pub dec-may-be-inside : (t a b q : ℕ) → Decides (may_be_inside H t a b q) (MayBeInside H t a b q)
  unfolding may_be_inside
  dec-may-be-inside t a b q =
      let p = H.at_rank t in
      dec-map
      (λ x. record {
        allowed = x.0;
        top = x.1.0;
        label = x.1.1.0;
        others = λ j k l u r o. x.1.1.1 j k.low k.high (l, (u, (r, o)));
      })
      (λ g.
      (g.allowed, (g.top, (g.label, λ j l u y. g.others j (record { low = l; high = u }) y.0 y.1.0 y.1.1.0 y.1.1.1))))
      (dec-and (dec-true _) (dec-and (dec-if-le H.n b (dec-le _ _)) (dec-and (dec-if-pos q (dec-not (dec-overlaps p q)))
      (dec-every-point (λ j. not (bars H t a b p j)) _ H.n (λ j. dec-not (dec-bars t a b p j))))))

  -- `rows_differ` tests that p isn't in the row of b, if b is a point.
  pub dec-rows-differ : (p b : ℕ) → Decides (rows_differ H p b) (b ≤ H.n → H.row p ≡ H.row b → ⊥)
  unfolding rows_differ
  dec-rows-differ p b = dec-if-le H.n b (dec-not (dec-eq _ _))

  -- `reaches_above` tests that i is above a and reaches over p.
  pub dec-above : (a p i : ℕ) → Decides (reaches_above H a p i) ((a < i) × Reaches H p i)
  unfolding reaches_above
  dec-above a p i = dec-and (dec-lt _ _) (dec-reaches p i)

  -- `reach` gives one of these.
  pub reach-is : (a p q : ℕ) → Reached H a p q (reach H a p q)
  unfolding reach
  reach-is a p q =
      decide (eqb r 0)
      (λ e. rw e (decide (reaches_over H p q) (λ k. rw k (older ((dec-reaches p q).is k) refl)) (λ k. rw k (nobody refl))))
      (λ e. rw e (let ne : r ≡ 0 → ⊥ = λ z. not-both ((dec-eq r 0).of z) e in
      let k = (dec-above a p r).is (greatest-is (reaches_above H a p) p (omega arith)) in newer k.1 k.0))
    where
      r : ℕ
      r = greatest (reaches_above H a p) p

  -- It isn't 0 if a point above a reaches over p.
  pub reach-newer : (a p q i : ℕ) → Reaches H p i → a < i → 1 ≤ reach H a p q
  unfolding reach
  reach-newer a p q i k l = rw (dec-false (dec-eq r 0) (λ z. omega (arith, s))) (omega (arith, s))
    where
      r : ℕ
      r = greatest (reaches_above H a p) p

      s : i ≤ r
      s = greatest-most (reaches_above H a p) p i (omega (arith, k.high)) ((dec-above a p i).of (l, k))

  -- It isn't 0 if q reaches over p.
  pub reach-older : (a p q : ℕ) → Reaches H p q → 1 ≤ reach H a p q
  unfolding reach
  reach-older a p q k =
      decide (eqb r 0) (λ e. rw (e, (dec-reaches p q).of k) k.low)
      (λ e. rw e (let ne : r ≡ 0 → ⊥ = λ z. not-both ((dec-eq r 0).of z) e in omega arith))
    where
      r : ℕ
      r = greatest (reaches_above H a p) p

-- VALUES

-- A value with one more point inside is the sum.
pub plus-of : (x y : ℕ) → 1 ≤ y → plus x y ≡ x + y
unfolding plus
plus-of x zero l = absurd (omega arith)
plus-of x (suc y) l = refl

-- It is 0 only if the value is.
pub plus-is : (x y : ℕ) → 1 ≤ plus x y → 1 ≤ y
unfolding plus
plus-is x zero l = l
plus-is x (suc y) l = omega arith

-- The value of two parts is one less than the sum of their values.
pub join-of : (x y : ℕ) → 1 ≤ x → 1 ≤ y → suc (join x y) ≡ x + y
unfolding join
join-of zero y l m = absurd (omega arith)
join-of (suc x) y l m = omega (arith, plus-of x y m)

-- It is 0 only if one of them is.
pub join_is : (x y : ℕ) → 1 ≤ join x y → (1 ≤ x) × (1 ≤ y)
unfolding join
join_is zero y l = absurd (omega arith)
join_is (suc x) y l = (omega arith, plus-is x y l)

-- THE RECURRENCE, A BRANCH AT A TIME

-- With no open point the value is 1.
pub value-zero : (H : Heights) (a b q : ℕ) → value H zero a b q ≡ 1
unfolding value
value-zero H a b q = refl

module _ (H : Heights) (t a b q : ℕ) where
  -- The point of rank t isn't between: the value is that with one rank less.
  pub value-skip : between a (H.at_rank t) b ≡ false → value H (suc t) a b q ≡ value H t a b q
  unfolding value
  value-skip e = rw e

  -- It is between: the value is the greater of what it gives outside and inside.
  pub value-step : between a (H.at_rank t) b ≡ true → value H (suc t) a b q ≡ max (out_value H t a b q) (in_value H t a b q)
  unfolding value out_value in_value
  value-step e = rw e

  -- What it gives outside is the sum of the two parts' values, less one.
  pub out_of : CanOut H t a b q
      → suc (out_value H t a b q) ≡ value H t a (H.at_rank t) q + value H t (H.at_rank t) b (reach H a (H.at_rank t) q)
  unfolding out_value
  out_of c = rw c.differ (join-of _ _ c.low c.high)

  -- If that isn't 0, it can be outside.
  pub out-is : 1 ≤ out_value H t a b q → CanOut H t a b q
  unfolding out_value
  out-is l =
      decide (rows_differ H (H.at_rank t) b)
      (λ e. let m = join_is _ _ (rw e at l) in record { differ = e; low = m.0; high = m.1 })
      (λ e. let m : 1 ≤ 0 = rw e at l in absurd (omega arith))

  -- What it gives inside is its weight more than the value of the others.
  pub in-of : CanIn H t a b q → in_value H t a b q ≡ H.weight (H.at_rank t) + value H t a b q
  unfolding in_value
  in-of c = rw c.may-be-inside (plus-of _ _ c.rest)

  -- If that isn't 0, it can be inside.
  pub in_is : 1 ≤ in_value H t a b q → CanIn H t a b q
  unfolding in_value
  in_is l =
      decide (may_be_inside H t a b q)
      (λ e. record { may-be-inside = e; rest = plus-is _ _ (rw e at l) })
      (λ e. let m : 1 ≤ 0 = rw e at l in absurd (omega arith))

-- THE RECOVERY, A BRANCH AT A TIME

module _ (H : Heights) (t a b q i : ℕ) where
  -- The point of rank t isn't between: the choice is that with one rank less.
  pub recovered-skip : between a (H.at_rank t) b ≡ false → recovered H (suc t) a b q i ≡ recovered H t a b q i
  unfolding recovered
  recovered-skip e = rw e

  -- It is put inside, with the choice of the others.
  pub recovered-in : between a (H.at_rank t) b ≡ true → takes_in H t a b q ≡ true
      → recovered H (suc t) a b q i ≡ (eqb i (H.at_rank t) || recovered H t a b q i)
  unfolding recovered
  recovered-in e m = rw (e, m)

  -- It is left outside, with the choices of the parts below it and above it.
  pub recovered-out : between a (H.at_rank t) b ≡ true → takes_in H t a b q ≡ false
      → recovered H (suc t) a b q i
      ≡ cond (ltb i (H.at_rank t)) (recovered H t a (H.at_rank t) q i) (ltb (H.at_rank t) i &&
      recovered H t (H.at_rank t) b (reach H a (H.at_rank t) q) i)
  unfolding recovered
  recovered-out e m = rw (e, m)

-- THE WEIGHT OF OPEN POINTS, A BRANCH AT A TIME

-- No open point weighs nothing.
pub open-zero : (H : Heights) (S : ℕ → Bool) (a b : ℕ) → open_weight H S zero a b ≡ 0
unfolding open_weight
open-zero H S a b = refl

module _ (H : Heights) (S : ℕ → Bool) (t a b : ℕ) where
  -- The point of rank t adds nothing if it isn't between.
  pub open-skip : between a (H.at_rank t) b ≡ false → open_weight H S (suc t) a b ≡ open_weight H S t a b
  unfolding open_weight
  open-skip e = rw e (omega arith)

  -- It adds nothing if it is outside.
  pub open-out : S (H.at_rank t) ≡ false → open_weight H S (suc t) a b ≡ open_weight H S t a b
  unfolding open_weight
  open-out e = decide (between a (H.at_rank t) b) (λ k. rw (k, e) (omega arith)) (λ k. rw k (omega arith))

  -- It adds its weight if it is between, and inside.
  pub open_in : between a (H.at_rank t) b ≡ true → S (H.at_rank t) ≡ true
      → open_weight H S (suc t) a b ≡ H.weight (H.at_rank t) + open_weight H S t a b
  unfolding open_weight
  open_in e k = rw (e, k)
