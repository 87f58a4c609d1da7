-- A point that may be inside, and whose label reaches over no point above it in its slab, gives no more outside than inside: its cut
-- needn't be tried. For any weights, points that aren't allowed, and points that share a row.
-- Assumes nothing.
use Rattle.std.specs.Prelude.{◌≡◌, true, ℕ, zero, suc, ◌≤◌, ◌<◌}
use Rattle.std.proofs.Math.Path.{refl}
use Rattle.std.proofs.Common.{sym, ap, arith}
use borrow.Author.Tests.{lt-ltb, le-ltb}
use Rattle.labeling.proofs.Decide.{decide, same, not-both, less, dec-false}
use Rattle.recurrence.specs.Recurrence.{Heights, Point, Sorted, Overlap, between}
use Rattle.recurrence.specs.Recurrence.{reaches_above, reach, may_be_inside, rows_differ, join, value, out_value, in_value}
use Rattle.recurrence.specs.RecurrenceTests.{Between, Reaches, Reached}
use Rattle.recurrence.proofs.RecurrenceTests.{dec-between, dec-reaches}
use Rattle.recurrence.specs.RecurrenceTests.{newer, older, nobody, MayBeInside}
use Rattle.recurrence.proofs.RecurrenceTests.{reach-is, dec-may-be-inside}
use Rattle.recurrence.proofs.RecurrenceTests.{dec-rows-differ, value-zero, value-skip, value-step, greatest-same}
use Rattle.recurrence.proofs.Joins.{plus-rises, plus-more, join-none, join_last, join-rises, join-max-low}
use Rattle.recurrence.proofs.Joins.{join-max-high, join-plus-low, join-plus-high, join-assoc}
use Rattle.recurrence.proofs.Slabs.{rank_is, right_of, overlap-reaches, reaches-overlaps}
use Rattle.recurrence.specs.Safe.{Safe, Aside, Beside, Whole}
pub use Rattle.recurrence.proofs.Unreached.{dec-unreached}

narrower : {H : Heights} {t p b b' j : ℕ} → b' ≤ b → Aside H t p b j → Aside H t p b' j
narrower l x = record { apart = λ y m n r o. x.apart y m (omega arith) r o }

module _ {H : Heights} (L : Sorted H) {t p : ℕ} (pp : Point H p) (rp : H.rank p ≡ t) where
  below-n : t < H.n
  below-n = omega (arith, L.rank_below p pp)

  -- The point x of rank u, in a slab (a, b, q); the claim is known below rank u.
  module _ (u : ℕ) (ut : u < t) (ih : Whole H t p u) {a b q : ℕ} (h : Beside H t p (suc u) a b q) (k : Between a (H.at_rank u) b) where
    px : Point H (H.at_rank u)
    px = L.at_rank-point u (omega (arith, below-n))

    rx : H.rank (H.at_rank u) ≡ u
    rx = L.rank-at_rank u (omega (arith, below-n))

    -- No other point has rank u.
    later : (j : ℕ) → a < j → j < p → u ≤ H.rank j → (j ≡ H.at_rank u → ⊥) → suc u ≤ H.rank j
    later j l m r ne =
        let pj : Point H j = record { low = omega arith; high = omega (arith, pp.high) } in
        let nr : H.rank j ≡ u → ⊥ = λ z. ne (rank_is L u j pj z) in
        omega arith

    -- x IS BELOW p
    module _ (m : H.at_rank u < p) where
      rows-up : (j : ℕ) → p ≤ j → j ≤ H.n → H.row p ≤ H.row j
      rows-up j l v = same j p (λ z. rw z (omega arith)) (λ ne. L.rows p j pp (record { low = omega arith; high = v }) (omega arith))

      -- It may be inside below p: its label ends below p's row, so it may be inside in the whole.
      inside-low : may_be_inside H u a p q ≡ true → may_be_inside H u a b q ≡ true
      inside-low e =
          let g : MayBeInside H u a p q = (dec-may-be-inside H u a p q).is e in
          (dec-may-be-inside H u a b q).of (record {
            allowed = g.allowed;
            top = λ l. omega (arith, g.top pp.high, rows-up b (omega (arith, h.high)) l);
            label = g.label;
            others = λ j pj l v r o. less j p (λ w. g.others j pj l w r o)
                (λ w. omega (arith, g.top pp.high, rows-up j w pj.high, o.above));
          })

      rest-low : may_be_inside H u a p q ≡ true → Beside H t p u a b q
      rest-low e = record {
        low = h.low;
        high = h.high;
        upper = h.upper;
        own = h.own;
        inside = λ j l v r. same j (H.at_rank u)
            (λ z. record {
              apart = λ y i n s o.
                  let o' : Overlap H y (H.at_rank u) = rw z at o in
                  omega (
                    arith,
                    ((dec-may-be-inside H u a p q).is e).top pp.high,
                    rows-up y (omega arith) (omega (arith, h.upper)),
                    o'.below,
                  );
            })
            (λ ne. h.inside j l v (later j l v r ne));
        over = h.over;
      }

      in-low : join (in_value H u a p q) (value H u p b 0) ≤ in_value H u a b q
      unfolding in_value join
      in-low = decide (may_be_inside H u a p q)
          (λ e. rw (e, inside-low e, join-plus-low (H.weight (H.at_rank u)) (value H u a p q) (value H u p b 0))
          (plus-rises (H.weight (H.at_rank u)) _ _ (ih a b q (rest-low e))))
          (λ e. rw e (omega arith))

      -- The slab is cut at it: p is in the upper part.
      part_low : Beside H t p u (H.at_rank u) b (reach H a (H.at_rank u) q)
      part_low = record {
        low = m;
        high = h.high;
        upper = h.upper;
        own = h.own;
        inside = λ j l v r. h.inside j (omega (arith, k.low)) v (later j (omega (arith, k.low)) v r (λ z. omega arith));
        over = λ l. from (reach H a (H.at_rank u) q) (reach-is H a (H.at_rank u) q) l;
      }
        where
          from : (r : ℕ) → Reached H a (H.at_rank u) q r → 1 ≤ r → Aside H t p b r
          from r (newer x l) i =
              let pr : Point H r = record { low = i; high = omega (arith, x.high, px.high) } in
              h.inside r l (omega (arith, x.high)) (right_of L u r (omega (arith, below-n)) pr x.right)
          from r (older x e) i = rw e (h.over x.low)
          from r (nobody e) i = absurd (omega arith)

      differ-low : rows_differ H (H.at_rank u) p ≡ true → rows_differ H (H.at_rank u) b ≡ true
      differ-low e = (dec-rows-differ H (H.at_rank u) b).of (λ l z.
          (dec-rows-differ H (H.at_rank u) p).is e pp.high
          (omega (arith, L.rows (H.at_rank u) p px pp m, rows-up b (omega (arith, h.high)) l)))

      out-low : join (out_value H u a p q) (value H u p b 0) ≤ out_value H u a b q
      unfolding out_value join
      out-low = decide (rows_differ H (H.at_rank u) p)
          (λ e. rw (
            e,
            differ-low e,
            join-assoc (value H u a (H.at_rank u) q) (value H u (H.at_rank u) p (reach H a (H.at_rank u) q)) (value H u p b 0),
          )
          (join-rises (value H u a (H.at_rank u) q) _ (value H u a (H.at_rank u) q) _ (omega arith)
          (ih (H.at_rank u) b (reach H a (H.at_rank u) q) part_low)))
          (λ e. rw e (omega arith))

    -- x IS ABOVE p
    module _ (m : p < H.at_rank u) where
      touch : (j : ℕ) → Aside H t p b j → Overlap H (H.at_rank u) j → ⊥
      touch j s o = s.apart (H.at_rank u) m k.high (omega (arith, rx)) o

      -- It may be inside above p: it overlaps nothing below, so it may be inside in the whole.
      inside-high : may_be_inside H u p b 0 ≡ true → may_be_inside H u a b q ≡ true
      inside-high e =
          let g : MayBeInside H u p b 0 = (dec-may-be-inside H u p b 0).is e in
          (dec-may-be-inside H u a b q).of (record {
            allowed = g.allowed;
            top = g.top;
            label = λ l o. touch q (h.over l) o;
            others = λ j pj l v r o. less p j (λ w. g.others j pj w v r o)
                (λ w. same j p (λ z. touch p h.own (rw z at o)) (λ ne. touch j (h.inside j l (omega arith) r) o));
          })

      part-inside : (j : ℕ) → a < j → j < p → u ≤ H.rank j → Aside H t p b j
      part-inside j l v r = h.inside j l v (later j l v r (λ z. omega arith))

      rest-high : Beside H t p u a b q
      rest-high = record { low = h.low; high = h.high; upper = h.upper; own = h.own; inside = part-inside; over = h.over }

      in-high : join (value H u a p q) (in_value H u p b 0) ≤ in_value H u a b q
      unfolding in_value
      in-high = decide (may_be_inside H u p b 0)
          (λ e. rw (e, inside-high e, join-plus-high (H.weight (H.at_rank u)) (value H u a p q) (value H u p b 0))
          (plus-rises (H.weight (H.at_rank u)) _ _ (ih a b q rest-high)))
          (λ e. rw (e, join-none (value H u a p q)) (omega arith))

      -- The slab is cut at it: p is in the lower part, and a label that reaches over x is that of a point above p.
      same_above : (i : ℕ) → reaches_above H a (H.at_rank u) i ≡ reaches_above H p (H.at_rank u) i
      unfolding reaches_above
      same_above i =
          less p i (λ l. rw (lt-ltb p i l, lt-ltb a i (omega (arith, h.low))) refl)
          (λ l. less a i
          (λ n. rw (le-ltb p i l, lt-ltb a i n) (dec-false (dec-reaches H (H.at_rank u) i) (λ x.
          same i p (λ z. touch p h.own (rw z at (reaches-overlaps L (H.at_rank u) i px x)))
          (λ ne.
          let pi : Point H i = record { low = omega arith; high = omega (arith, pp.high) } in
          touch i (h.inside i n (omega arith) (right_of L u i (omega (arith, below-n)) pi x.right))
          (reaches-overlaps L (H.at_rank u) i px x)))))
          (λ n. rw (le-ltb p i l, le-ltb a i n) refl))

      same-reach : reach H a (H.at_rank u) q ≡ reach H p (H.at_rank u) 0
      unfolding reach
      same-reach =
          rw (
            greatest-same (reaches_above H a (H.at_rank u)) (reaches_above H p (H.at_rank u)) (H.at_rank u) (λ i l n. same_above i),
            dec-false (dec-reaches H (H.at_rank u) q) (λ x. touch q (h.over x.low) (reaches-overlaps L (H.at_rank u) q px x)),
            dec-false (dec-reaches H (H.at_rank u) 0) (λ x. omega (arith, x.low)),
          ) refl

      part-high : Beside H t p u a (H.at_rank u) q
      part-high = record {
        low = h.low;
        high = m;
        upper = omega (arith, px.high);
        own = narrower (omega (arith, k.high)) h.own;
        inside = λ j l v r. narrower (omega (arith, k.high)) (part-inside j l v r);
        over = λ l. narrower (omega (arith, k.high)) (h.over l);
      }

      out-high : join (value H u a p q) (out_value H u p b 0) ≤ out_value H u a b q
      unfolding out_value
      out-high = decide (rows_differ H (H.at_rank u) b)
          (λ e. rw (
            e,
            same-reach,
            ← join-assoc (value H u a p q) (value H u p (H.at_rank u) 0) (value H u (H.at_rank u) b (reach H p (H.at_rank u) 0)),
          )
          (join-rises _ (value H u (H.at_rank u) b (reach H p (H.at_rank u) 0)) _
          (value H u (H.at_rank u) b (reach H p (H.at_rank u) 0)) (ih a (H.at_rank u) q part-high) (omega arith)))
          (λ e. rw (e, join-none (value H u a p q)) (omega arith))

  -- BY INDUCTION ON THE RANK: the point of rank u is in the part below p, in the part above it, or in neither.
  whole : (u : ℕ) → u ≤ t → Whole H t p u
  whole zero l a b q h = rw (value-zero H a p q, value-zero H p b 0, value-zero H a b q) (omega (arith, join_last 1 (omega arith)))
  whole (suc u) l a b q h =
      let x = H.at_rank u in
      let ih = whole u (omega arith) in
      decide (between a x b)
      (λ e.
      let k : Between a x b = (dec-between a x b).is e in
      less x p
      (λ m.
      rw (
        value-step H u a b q e,
        value-step H u a p q ((dec-between a x p).of (record { low = k.low; high = m })),
        value-skip H u p b 0 (dec-false (dec-between p x b) (λ n. omega (arith, n.low))),
      )
      (omega (arith, join-max-low (out_value H u a p q) (in_value H u a p q) (value H u p b 0), out-low u l ih h k m, in-low u l ih h k m)))
      (λ m.
      let ne : x ≡ p → ⊥ = λ z. omega (arith, ap H.rank z, L.rank-at_rank u (omega (arith, below-n))) in
      let m' : p < x = omega arith in
      rw (
        value-step H u a b q e,
        value-step H u p b 0 ((dec-between p x b).of (record { low = m'; high = k.high })),
        value-skip H u a p q (dec-false (dec-between a x p) (λ n. omega (arith, n.high))),
      )
      (omega (
        arith,
        join-max-high (value H u a p q) (out_value H u p b 0) (in_value H u p b 0),
        out-high u l ih h k m',
        in-high u l ih h k m',
      ))))
      (λ e.
      let none : Between a x b → ⊥ = λ n. not-both ((dec-between a x b).of n) e in
      rw (
        value-skip H u a b q e,
        value-skip H u a p q (dec-false (dec-between a x p) (λ n. none (record { low = n.low; high = omega (arith, n.high, h.high) }))),
        value-skip H u p b 0 (dec-false (dec-between p x b) (λ n. none (record { low = omega (arith, n.low, h.low); high = n.high }))),
      )
      (ih a b q (record {
        low = h.low;
        high = h.high;
        upper = h.upper;
        own = h.own;
        inside = λ j n v r. h.inside j n v
            (let pj : Point H j = record { low = omega arith; high = omega (arith, pp.high) } in
            let nr : H.rank j ≡ u → ⊥ = λ z. none (rw (sym (rank_is L u j pj z)) (record { low = n; high = omega (arith, h.high) })) in
            omega arith);
        over = h.over;
      })))

-- A SAFE POINT
module _ {H : Heights} (L : Sorted H) {t a b q : ℕ} (s : Safe H t a b q) where
  p-point : Point H (H.at_rank t)
  p-point = L.at_rank-point t s.ranked

  p-rank : H.rank (H.at_rank t) ≡ t
  p-rank = L.rank-at_rank t s.ranked

  p-inside : MayBeInside H t a b q
  p-inside = (dec-may-be-inside H t a b q).is s.may-be-inside

  -- A label below p and right of p that doesn't reach over p overlaps none above p and left of p.
  aside : (j : ℕ) → Point H j → j < H.at_rank t → t < H.rank j → (Reaches H (H.at_rank t) j → ⊥) → Aside H t (H.at_rank t) b j
  aside j pj l r f = record {
    apart = λ y m n i o. f (overlap-reaches L j (H.at_rank t) y pj p-point
        (record { low = omega arith; high = omega (arith, s.upper) }) l m (omega (arith, p-rank)) (omega (arith, p-rank)) o);
  }

  right-of-p : 1 ≤ q → t < H.rank q
  right-of-p l =
      let x = s.over l in
      let pa : Point H a = record { low = omega (arith, x.high); high = omega (arith, s.within.low, p-point.high) } in
      let pq : Point H q = record { low = l; high = omega (arith, x.high, pa.high) } in
      right_of L t q s.ranked pq
      (omega (arith, x.right, L.columns (H.at_rank t) a p-point pa (omega (arith, p-rank, s.lower-rank pa.low))))

  beside : Beside H t (H.at_rank t) t a b q
  beside = record {
    low = s.within.low;
    high = s.within.high;
    upper = s.upper;
    own = record {
      apart = λ y m n r o.
          let py : Point H y = record { low = omega arith; high = omega (arith, s.upper) } in
          s.unreached.none y m n (record {
            low = p-point.low;
            high = m;
            over = o.below;
            right = L.ties y (H.at_rank t) py p-point (omega (arith, p-rank)) m;
            near = o.right;
          });
    };
    inside = λ j l m r.
        let pj : Point H j = record { low = omega arith; high = omega (arith, p-point.high) } in
        let ne : H.rank j ≡ t → ⊥ = λ z. omega (arith, rank_is L t j pj z) in
        aside j pj m (omega arith)
        (λ x. p-inside.others j pj l (omega (arith, s.within.high)) (omega arith) (reaches-overlaps L (H.at_rank t) j p-point x));
    over = λ l.
        let x = s.over l in
        aside q (record { low = l; high = omega (arith, x.high, s.within.low, p-point.high) })
        (omega (arith, x.high, s.within.low)) (right-of-p l) (λ y. p-inside.label l (reaches-overlaps L (H.at_rank t) q p-point y));
  }

  -- No label reaches over it: it would overlap.
  no-reach : reach H a (H.at_rank t) q ≡ 0
  no-reach = from (reach H a (H.at_rank t) q) (reach-is H a (H.at_rank t) q)
    where
      from : (r : ℕ) → Reached H a (H.at_rank t) q r → r ≡ 0
      from r (newer x l) =
          let pr : Point H r = record { low = x.low; high = omega (arith, x.high, p-point.high) } in
          absurd (p-inside.others r pr l (omega (arith, x.high, s.within.high))
          (right_of L t r s.ranked pr x.right) (reaches-overlaps L (H.at_rank t) r p-point x))
      from r (older x e) = absurd (p-inside.label x.low (reaches-overlaps L (H.at_rank t) q p-point x))
      from r (nobody e) = e

  -- OUTSIDE IT GIVES NO MORE than the others do with it inside,
  pub safe-outside : out_value H t a b q ≤ value H t a b q
  unfolding out_value
  safe-outside = decide (rows_differ H (H.at_rank t) b)
      (λ e. rw (e, no-reach) (whole L p-point p-rank t (omega arith) a b q beside))
      (λ e. rw e (omega arith))

  -- SO THE VALUE IS WHAT IT GIVES INSIDE.
  pub safe-inside : value H (suc t) a b q ≡ in_value H t a b q
  unfolding in_value
  safe-inside =
      rw (value-step H t a b q ((dec-between a (H.at_rank t) b).of s.within), s.may-be-inside)
      (omega (arith, safe-outside, plus-more (H.weight (H.at_rank t)) (value H t a b q)))
