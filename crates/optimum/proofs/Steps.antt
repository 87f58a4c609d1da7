-- What holds of a slab, and of an open point of it. Assumes nothing.
use Rattle.std.specs.Prelude.{◌≡◌, ℕ, zero, suc, ◌+◌, ◌-◌, ◌%◌, ◌<◌, ◌≤◌, true, false, List, ◌==◌, nat_lt}
use Rattle.std.proofs.Math.Path.{refl, sym, ap}
use Rattle.std.proofs.Common.{◌∙◌, add-one, arith, ltb-true, ltb-false}
use Rattle.labeling.proofs.Decide.{decide, same, or_right, dec-eq, less, dec-false}
use Rattle.recurrence.specs.Recurrence.{Heights, Point, between, reach, value, join, out_value, rows_differ, total}
use Rattle.recurrence.specs.RecurrenceTests.{Between, Reaches, Reached, newer, older, nobody}
use Rattle.recurrence.proofs.RecurrenceTests.{dec-between, dec-reaches, reach-is}
use Rattle.recurrence.proofs.Joins.{join-none}
use Rattle.recurrence.specs.Totals.{all}
use Rattle.recurrence.proofs.Totals.{value-bound}
use Rattle.orders.specs.Arrays.{heights_of}
use Rattle.orders.specs.Sums.{tri, tet}
use Rattle.orders.specs.Layout.{field_cells, weight_bound}
use Rattle.optimum.specs.Places.{entries, place_of}
use Rattle.optimum.proofs.Places.{place-below}
use Rattle.optimum.specs.Packed.{Packed}
use Rattle.optimum.specs.Conflicts.{Candidate}
use Rattle.optimum.specs.Slabs.{open_below, slab_has, slab_below, slab_value, slab_out, slab_place, lower_part, upper_part, fitting}
use Rattle.optimum.specs.Table.{Ready, Opened}
use Rattle.optimum.specs.declared.table.Slab.{Slab}

-- THE TEST OF A POINT BETWEEN

-- The distance d of p from the point after a, as it wraps round, is less than that of b exactly if p is between.
pub between-wrapped : (a p b d : ℕ) → a < b → b < 18446744073709551616 → d < 18446744073709551616 → (d + (a + 1)) % 18446744073709551616 ≡ p
    → nat_lt d (b - (a + 1)) ≡ between a p b
between-wrapped a p b d l m n e =
    decide (nat_lt d (b - (a + 1)))
    (λ z. let z' : d < b - (a + 1) = ltb-true _ _ z in z ∙ sym ((dec-between a p b).of (record { low = omega arith; high = omega arith })))
    (λ z.
    let z' : b - (a + 1) ≤ d = ltb-false _ _ z in
    decide (between a p b)
    (λ k. let k' : Between a p b = (dec-between a p b).is k in absurd (omega (arith, k'.low, k'.high))) (λ k. z ∙ sym k))

-- WHICH LABELS FIT A SLAB

module _ (H : Heights) where
  -- 0, no label, fits every lower end.
  pub fitting-zero : (a : ℕ) → fitting H a 0 ≡ true
  unfolding fitting
  fitting-zero a = refl

  fitting-reaches : (a q : ℕ) → Reaches H a q → fitting H a q ≡ true
  unfolding fitting
  fitting-reaches a q k = or_right (q == 0) _ ((dec-reaches H a q).of k)

  -- A label that fits, if it is one, reaches over the lower end,
  pub reaches-fitting : (a q : ℕ) → fitting H a q ≡ true → 1 ≤ q → Reaches H a q
  unfolding fitting
  reaches-fitting a q e l = (dec-reaches H a q).is (rw (dec-false (dec-eq q 0) (λ z. omega arith)) at e)

  -- and is at most it.
  pub fitting-le : (a q : ℕ) → fitting H a q ≡ true → q ≤ a
  fitting-le a q e = less 0 q (λ l. omega (arith, (reaches-fitting a q e l).high)) (λ l. omega arith)

  -- The label that reaches over a cut fits the upper part.
  pub fitting-reach : (a p q : ℕ) → fitting H p (reach H a p q) ≡ true
  fitting-reach a p q = go (reach H a p q) (reach-is H a p q)
    where
      go : (r : ℕ) → Reached H a p q r → fitting H p r ≡ true
      go r (newer k l) = fitting-reaches p r k
      go r (older k e) = rw e (fitting-reaches p q k)
      go r (nobody e) = rw e (fitting-zero p)

-- WEIGHTS

-- A point weighs no more than all.
pub weight-total : (H : Heights) (i m : ℕ) → 1 ≤ i → i ≤ m → H.weight i ≤ total H all m
unfolding total
weight-total H i zero l u = absurd (omega arith)
weight-total H i (suc m) l u = same i (suc m) (λ e. rw e (omega arith)) (λ ne. omega (arith, weight-total H i m l (omega arith)))

pub weight-small : (s : List ℕ) (i : ℕ) → Packed s → Point (heights_of s) i → (heights_of s).weight i < weight_bound
weight-small s i k p = omega (arith, weight-total (heights_of s) i (heights_of s).n p.low p.high, k.light)

-- A SLAB

module _ {s : List ℕ} {x : Slab} (r : Ready s x) (packed : Packed s) where
  -- Its ends have cells in the array.
  pub ends-small : (x.lower < field_cells) × (x.upper < field_cells)
  ends-small = (omega (arith, r.proper.order, r.proper.upper, packed.few), omega (arith, r.proper.upper, packed.few))

  -- Its points are open below n at most.
  pub open-below-n : open_below (heights_of s) x ≤ (heights_of s).n
  unfolding open_below
  open-below-n =
      less (heights_of s).n x.upper
      (λ l.
      let z : x.upper ≡ suc (heights_of s).n = omega (arith, r.proper.upper) in
      omega (arith, ap (heights_of s).rank z, packed.upper-rank))
      (λ l. omega (arith, packed.sorted.rank_below x.upper (record { low = omega (arith, r.proper.order); high = l })))

  pub open-below-few : open_below (heights_of s) x ≤ 32
  open-below-few = omega (arith, open-below-n, packed.few)

  -- Its place is one of the table's,
  pub place-room : slab_place x < entries
  place-room =
      place-below x.lower x.upper x.reaching (fitting-le (heights_of s) x.lower x.reaching r.proper.fits)
      r.proper.order (omega (arith, r.proper.upper, packed.few))

  -- and the sum of two numbers from the array, and q.
  pub place-sum : (y z : ℕ) → y ≡ tet (x.upper + 1) → z ≡ tri (x.lower + 1)
      → (y + z + x.reaching ≡ slab_place x) × (y + z + x.reaching < entries)
  unfolding place_of
  place-sum y z e f =
      let e' : y ≡ tet (suc x.upper) = e ∙ ap tet (add-one x.upper) in
      let f' : z ≡ tri (suc x.lower) = f ∙ ap tri (add-one x.lower) in
      (rw (e', f'), omega (arith, place-room))

  pub value-small : (t : ℕ) → t ≤ (heights_of s).n → slab_below (heights_of s) t x ≤ weight_bound
  value-small t l =
      omega (arith, value-bound packed.sorted t x.lower x.upper x.reaching l r.proper.upper, packed.light)

-- AN OPEN POINT

-- The point of a rank below which the points are open, if it is between.
pub opened : {s : List ℕ} {x : Slab} → Ready s x → Packed s → (t p : ℕ) → t < open_below (heights_of s) x → p ≡ (heights_of s).at_rank t
    → slab_has x p ≡ true
    → Opened s x p × ((heights_of s).rank p ≡ t)
opened {s} {x} r packed t p l e f =
    let u : t < (heights_of s).n = omega (arith, open-below-n r packed) in
    let z : (heights_of s).rank p ≡ t = rw e (packed.sorted.rank-at_rank t u) in
    let k : Between x.lower p x.upper = (dec-between x.lower p x.upper).is f in
    (record { ready = r; point = rw e (packed.sorted.at_rank-point t u); low = k.low; high = k.high; below = omega (arith, z) }, z)

module _ {s : List ℕ} {x : Slab} {p : ℕ} (o : Opened s x p) where
  pub open-below : Packed s → (heights_of s).rank p ≤ (heights_of s).n
  open-below packed = omega (arith, o.below, open-below-n o.ready packed)

  pub open-small : Packed s → p < field_cells
  open-small packed = omega (arith, o.point.high, packed.few)

  pub at-rank : Packed s → (heights_of s).at_rank ((heights_of s).rank p) ≡ p
  at-rank packed = packed.sorted.at_rank-rank p o.point

  pub open-between : Packed s → slab_has x ((heights_of s).at_rank ((heights_of s).rank p)) ≡ true
  open-between packed = rw (at-rank packed) ((dec-between x.lower p x.upper).of (record { low = o.low; high = o.high }))

  pub open-candidate : Candidate (heights_of s) x.lower x.upper x.reaching p
  open-candidate = record {
    point = o.point;
    low = o.low;
    high = o.high;
    upper = o.ready.proper.upper;
    fits = fitting-le (heights_of s) x.lower x.reaching o.ready.proper.fits;
  }

  pub open-weight : Packed s → (w : ℕ) → w ≡ (heights_of s).weight p → w < weight_bound
  open-weight packed w e = omega (arith, weight-small s p packed o.point)

  -- THE PARTS OF A CUT AT IT are slabs.
  pub ready-low : Ready s (lower_part x p)
  ready-low = record {
    proper = record { order = o.low; upper = omega (arith, o.high, o.ready.proper.upper); fits = o.ready.proper.fits };
  }

  pub ready-high : (q : ℕ) → q ≡ reach (heights_of s) x.lower p x.reaching → Ready s (upper_part x p q)
  ready-high q z = record {
    proper = record {
      order = o.high;
      upper = o.ready.proper.upper;
      fits = rw z (fitting-reach (heights_of s) x.lower p x.reaching);
    };
  }

  -- Their limits are the point's rank.
  pub open-below-low : open_below (heights_of s) (lower_part x p) ≡ (heights_of s).rank p
  unfolding open_below
  open-below-low = omega (arith, o.below)

  pub open-below-high : (q : ℕ) → open_below (heights_of s) (upper_part x p q) ≡ (heights_of s).rank p
  unfolding open_below
  open-below-high q = omega (arith, o.below)

  -- Their values,
  pub low_value : (v : ℕ) → v ≡ slab_value (heights_of s) (lower_part x p)
      → v ≡ slab_below (heights_of s) ((heights_of s).rank p) (lower_part x p)
  low_value v f = f ∙ ap (λ (u : ℕ). slab_below (heights_of s) u (lower_part x p)) open-below-low

  pub high_value : (v q : ℕ) → v ≡ slab_value (heights_of s) (upper_part x p q) → q ≡ reach (heights_of s) x.lower p x.reaching
      → v ≡ slab_below (heights_of s) ((heights_of s).rank p) (upper_part x p (reach (heights_of s) x.lower p x.reaching))
  high_value v q f z =
      f ∙ (ap (λ (u : ℕ). slab_below (heights_of s) u (upper_part x p q)) (open-below-high q)
      ∙ ap (value (heights_of s) ((heights_of s).rank p) p x.upper) z)

  -- which are small,
  pub low_small : Packed s → (v : ℕ) → v ≡ slab_below (heights_of s) ((heights_of s).rank p) (lower_part x p) → v ≤ weight_bound
  low_small packed v e = omega (arith, value-small ready-low packed ((heights_of s).rank p) (open-below packed))

  pub high_small : Packed s → (v : ℕ)
      → v ≡ slab_below (heights_of s) ((heights_of s).rank p) (upper_part x p (reach (heights_of s) x.lower p x.reaching))
      → v ≤ weight_bound
  high_small packed v e = omega (arith, value-small (ready-high _ refl) packed ((heights_of s).rank p) (open-below packed))

  -- are what the point gives outside; in the row of the upper end it can't be outside.
  pub out-cut : Packed s → (acc z u v : ℕ) → rows_differ (heights_of s) p x.upper ≡ true → z ≡ join acc (join u v)
      → u ≡ slab_below (heights_of s) ((heights_of s).rank p) (lower_part x p)
      → v ≡ slab_below (heights_of s) ((heights_of s).rank p) (upper_part x p (reach (heights_of s) x.lower p x.reaching))
      → z ≡ join acc (slab_out (heights_of s) ((heights_of s).rank p) x)
  unfolding out_value
  out-cut packed acc z u v c f g h = f ∙ rw (at-rank packed, c, g, h)

  pub out_none : Packed s → (acc : ℕ) → rows_differ (heights_of s) p x.upper ≡ false
      → 0 ≡ join acc (slab_out (heights_of s) ((heights_of s).rank p) x)
  unfolding out_value
  out_none packed acc c = sym (rw (at-rank packed, c) (join-none acc))
