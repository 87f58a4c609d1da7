-- The tests of the recurrence as comparisons with two numbers for each point, which a program finds once for all slabs.
-- Assumes nothing.
use Rattle.std.specs.Prelude.{◌≡◌, refl, Bool, true, cond, not, ◌&&◌, ◌||◌, ◌↔◌, ltb, leb, eqb}
use Rattle.std.proofs.Common.{ap}
use Prim.Native.Nat.{ℕ, zero, suc, ◌+◌, ◌≤◌, ◌<◌}
use borrow.Author.Tests.{lt-ltb, le-ltb, eq-eqb, ne_eqb}
use native.Mathlib.Omega.{arith}
use Rattle.labeling.proofs.Decide.{decide, same, Decides, dec-lt, dec-le, dec-and, dec-not}
use Rattle.labeling.proofs.Decide.{dec-true, less, dec-map, dec-unique, dec-if-le, dec-if-pos}
use Rattle.recurrence.specs.Recurrence.{Heights, Point, Sorted, Overlap, overlaps, reaches_over}
use Rattle.recurrence.specs.Recurrence.{greatest, reaches_above, reach, may_be_inside}
use Rattle.recurrence.specs.RecurrenceTests.{Between, MayBeInside}
use Rattle.recurrence.proofs.RecurrenceTests.{greatest-le, greatest-is, greatest-most}
use Rattle.recurrence.specs.RecurrenceTests.{Reaches}
use Rattle.recurrence.proofs.RecurrenceTests.{dec-may-be-inside, dec-overlaps, dec-reaches, dec-above}
use Rattle.recurrence.proofs.Slabs.{reaches-overlaps, reaches-right, overlap-right-reaches}
use Rattle.recurrence.specs.Comparisons.{least, Passes, overlaps_above, high_of, top_of}

-- The least passes, unless it is d.
pub least-is : (f : ℕ → Bool) (d m : ℕ) → (least f d m ≡ d → ⊥) → Passes f m (least f d m)
unfolding least
least-is f d zero k = absurd (k refl)
least-is f d (suc m) k =
    decide (f (suc m))
    (λ e. rw e (same (least f (suc m) m) (suc m) (λ z. rw z (record { low = omega arith; high = omega arith; passes = e }))
    (λ ne. more (least-is f (suc m) m ne))))
    (λ e. rw e (more (least-is f d m (rw e at k))))
  where
    more : {i : ℕ} → Passes f m i → Passes f (suc m) i
    more x = record { low = x.low; high = omega (arith, x.high); passes = x.passes }

-- It is at most d, if d is more than m.
pub least-le : (f : ℕ → Bool) (d m : ℕ) → m < d → least f d m ≤ d
unfolding least
least-le f d zero l = omega arith
least-le f d (suc m) l =
    decide (f (suc m)) (λ k. rw k (omega (arith, least-le f (suc m) m (omega arith)))) (λ k. rw k (least-le f d m (omega arith)))

-- None that passes is less.
pub least-most : (f : ℕ → Bool) (d m i : ℕ) → Passes f m i → least f d m ≤ i
unfolding least
least-most f d zero i k = absurd (omega (arith, k.low, k.high))
least-most f d (suc m) i k =
    same i (suc m)
    (λ z. let e : f (suc m) ≡ true = rw z at k.passes in rw (z, e) (least-le f (suc m) m (omega arith)))
    (λ ne. least-most f (cond (f (suc m)) (suc m) d) m i (record { low = k.low; high = omega (arith, k.high); passes = k.passes }))

-- A number that passes, or is d, and is more than none that passes, is the least.
pub least-unique : (f : ℕ → Bool) (d m r : ℕ) → m < d → r ≤ d → ((r ≡ d → ⊥) → Passes f m r) → ((i : ℕ) → Passes f m i → r ≤ i)
    → least f d m ≡ r
least-unique f d m r l u p q =
    let x = least f d m in
    let b : x ≤ d = least-le f d m l in
    less x r
    (λ y. absurd (omega (arith, q x (least-is f d m (λ z. omega arith)))))
    (λ y. less r x (λ v. absurd (omega (arith, least-most f d m r (p (λ z. omega arith))))) (λ v. omega arith))

-- A number that passes, or is 0, and is less than none that passes, is the greatest.
pub greatest-unique : (f : ℕ → Bool) (m r : ℕ) → (1 ≤ r → Passes f m r) → ((i : ℕ) → Passes f m i → i ≤ r) → greatest f m ≡ r
greatest-unique f m r p q =
    let x = greatest f m in
    less x r
    (λ y. let k = p (omega arith) in absurd (omega (arith, greatest-most f m r k.high k.passes)))
    (λ y. less r x
    (λ v.
    let l : 1 ≤ x = omega arith in absurd (omega (arith, q x (record { low = l; high = greatest-le f m; passes = greatest-is f m l }))))
    (λ v. omega arith))

module _ (H : Heights) where
  -- `overlaps_above` tests this.
  pub dec-high : (i j : ℕ) → Decides (overlaps_above H i j) ((i < j) × ((H.rank i < H.rank j) × Overlap H i j))
  unfolding overlaps_above
  dec-high i j = dec-and (dec-lt _ _) (dec-and (dec-lt _ _) (dec-overlaps H i j))

  -- top of a point is below it.
  pub top_below : (p : ℕ) → 1 ≤ p → top_of H p < p
  unfolding top_of
  top_below p l = less 0 x (λ u. ((dec-reaches H p x).is (greatest-is (reaches_over H p) H.n u)).high) (λ u. omega arith)
    where
      x : ℕ
      x = greatest (reaches_over H p) H.n

  -- WHAT `reach` GIVES, by the topmost label.
  pub reach-top : (a p q : ℕ) → p ≤ H.n → reach H a p q ≡ cond (ltb a (top_of H p)) (top_of H p) (cond (reaches_over H p q) q 0)
  unfolding reach top_of
  reach-top a p q l =
      less a top
      (λ u.
      let k : Reaches H p top = (dec-reaches H p top).is (greatest-is (reaches_over H p) H.n (omega arith)) in
      let most : top ≤ r = greatest-most (reaches_above H a p) p top (omega (arith, k.high)) ((dec-above H a p top).of (u, k)) in
      let e : r ≡ top = omega (arith, back) in
      rw (ne_eqb r 0 (λ z. omega arith), lt-ltb a top u) e)
      (λ u. rw (eq-eqb r 0 (zero_is u), le-ltb a top u))
    where
      r : ℕ
      r = greatest (reaches_above H a p) p

      top : ℕ
      top = greatest (reaches_over H p) H.n

      back : r ≤ top
      back = same r 0 (λ z. omega arith)
          (λ ne.
          let k = (dec-above H a p r).is (greatest-is (reaches_above H a p) p (omega arith)) in
          greatest-most (reaches_over H p) H.n r (omega (arith, greatest-le (reaches_above H a p) p)) ((dec-reaches H p r).of k.1))

      zero_is : top ≤ a → r ≡ 0
      zero_is u = same r 0 (λ z. z)
          (λ ne.
          let k = (dec-above H a p r).is (greatest-is (reaches_above H a p) p (omega arith)) in
          absurd (omega (arith, back, k.0)))

  -- No point above i and below b is right of i and overlaps it, exactly if high is at least b.
  pub high-iff : (i b : ℕ) → b ≤ suc H.n
      → (b ≤ high_of H i) ↔ ((j : ℕ) → Point H j → i < j → j < b → H.rank i < H.rank j → Overlap H i j → ⊥)
  unfolding high_of
  high-iff i b m = (
    λ l j k u v r o. omega (
      arith,
      least-most (overlaps_above H i) (suc H.n) H.n j (record { low = k.low; high = k.high; passes = (dec-high i j).of (u, (r, o)) }),
    ),
    λ f. less x b
        (λ v.
        let k = least-is (overlaps_above H i) (suc H.n) H.n (λ z. omega arith) in
        let y = (dec-high i x).is k.passes in
        absurd (f x (record { low = k.low; high = k.high }) y.0 v y.1.0 y.1.1))
        (λ v. v),
  )
    where
      x : ℕ
      x = least (overlaps_above H i) (suc H.n) H.n

module _ {H : Heights} (L : Sorted H) where
  -- No point above a and below i is right of i and overlaps it, exactly if top is at most a.
  pub top-iff : (i a : ℕ) → Point H i → (top_of H i ≤ a) ↔ ((j : ℕ) → Point H j → a < j → j < i → H.rank i < H.rank j → Overlap H i j → ⊥)
  unfolding top_of
  top-iff i a p = (
    λ l j k u v r o.
        omega (arith, greatest-most (reaches_over H i) H.n j k.high ((dec-reaches H i j).of (overlap-right-reaches L i j p k v r o))),
    λ f. less a x
        (λ u.
        let k : Point H x = record { low = omega arith; high = greatest-le (reaches_over H i) H.n } in
        let y = (dec-reaches H i x).is (greatest-is (reaches_over H i) H.n k.low) in
        absurd (f x k u y.high (reaches-right L i x p y) (reaches-overlaps L i x p y)))
        (λ u. u),
  )
    where
      x : ℕ
      x = greatest (reaches_over H i) H.n

  -- WHETHER THE POINT OF RANK t IS GOOD, by comparisons.
  pub may-be-inside-compared : (t a b q : ℕ) → t < H.n → Between a (H.at_rank t) b → b ≤ suc H.n
      → may_be_inside H t a b q ≡ (H.allowed (H.at_rank t) && (leb (top_of H (H.at_rank t)) a
      && (leb b (high_of H (H.at_rank t))
      && ((ltb H.n b || leb (H.row (H.at_rank t) + H.h) (H.row b)) && (eqb q 0 || not (overlaps H (H.at_rank t) q))))))
  may-be-inside-compared t a b q l k m =
      dec-unique (dec-may-be-inside H t a b q)
      (dec-map there back
      (dec-and (dec-true _)
      (dec-and (dec-le _ _)
      (dec-and (dec-le _ _) (dec-and (dec-if-le H.n b (dec-le _ _)) (dec-if-pos q (dec-not (dec-overlaps H p q))))))))
    where
      p : ℕ
      p = H.at_rank t

      e : H.rank p ≡ t
      e = L.rank-at_rank t l

      Compared : Type 0
      Compared = (H.allowed p ≡ true) × ((top_of H p ≤ a)
          × ((b ≤ high_of H p) × ((b ≤ H.n → H.row p + H.h ≤ H.row b) × (1 ≤ q → Overlap H p q → ⊥))))

      there : Compared → MayBeInside H t a b q
      there x = record {
        allowed = x.0;
        top = x.1.1.1.0;
        label = x.1.1.1.1;
        others = λ j pj u v r o. less j p
            (λ y. (top-iff p a (L.at_rank-point t l)).0 x.1.0 j pj u y (omega (arith, e)) o)
            (λ y.
            let ne : j ≡ p → ⊥ = λ z. omega (arith, e, ap H.rank z) in
            (high-iff H p b m).0 x.1.1.0 j pj (omega arith) v (omega (arith, e)) o);
      }

      back : MayBeInside H t a b q → Compared
      back g = (
        g.allowed,
        (
          (top-iff p a (L.at_rank-point t l)).1 (λ j pj u v r o. g.others j pj u (omega (arith, k.high)) (omega (arith, e)) o),
          (
            (high-iff H p b m).1 (λ j pj u v r o. g.others j pj (omega (arith, k.low)) v (omega (arith, e)) o),
            (g.top, g.label),
          ),
        ),
      )
