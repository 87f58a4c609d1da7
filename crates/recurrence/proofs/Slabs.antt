-- Facts about two or three points; and a slab of the recurrence that a choice matches, with its successors.
-- Assumes nothing.
use Rattle.std.specs.Prelude.{◌≡◌, Bool, true, false, ℕ, suc, ◌+◌, ◌≤◌, ◌<◌}
use Rattle.std.proofs.Common.{sym, ◌∙◌, ap, arith}
use Rattle.labeling.proofs.Decide.{same, less}
use Rattle.recurrence.specs.Recurrence.{Heights, Point, Sorted, Overlap, Hits, reach}
use Rattle.recurrence.specs.RecurrenceTests.{Between, Reaches, Reached, newer, older, nobody}
use Rattle.recurrence.proofs.RecurrenceTests.{reach-is}
use Rattle.recurrence.specs.Slabs.{Matches}

-- An overlap is mutual.
pub overlap-sym : {H : Heights} {i j : ℕ} → Overlap H i j → Overlap H j i
overlap-sym o = record { left = o.right; right = o.left; below = o.above; above = o.below }

-- TWO OR THREE POINTS

module _ {H : Heights} (L : Sorted H) where
  -- Only the point of rank t has rank t.
  pub rank_is : (t i : ℕ) → Point H i → H.rank i ≡ t → i ≡ H.at_rank t
  rank_is t i k e = sym (L.at_rank-rank i k) ∙ ap H.at_rank e

  -- A point in a greater column than the point of rank t has a greater rank.
  pub right_of : (t i : ℕ) → t < H.n → Point H i → H.column (H.at_rank t) < H.column i → t < H.rank i
  right_of t i l k c =
      less t (H.rank i) (λ u. u)
      (λ u. absurd (same (H.rank i) t
      (λ z. omega (arith, ap H.column (rank_is t i k z)))
      (λ ne. omega (arith, L.columns i (H.at_rank t) k (L.at_rank-point t l) (omega (arith, L.rank-at_rank t l))))))

  -- The label of a point below p and right of p doesn't reach p's leader.
  pub right-misses : (i p : ℕ) → Point H i → Point H p → i < p → H.rank p < H.rank i → Hits H i p → ⊥
  right-misses i p pi pp l r o = omega (arith, L.ties p i pp pi r l, o.left)

  -- The label of a point above p doesn't reach p's leader.
  pub upper-misses : (i p : ℕ) → Point H i → Point H p → p < i → Hits H i p → ⊥
  upper-misses i p pi pp l o =
      let e : H.row p ≡ H.row i = omega (arith, o.from, L.rows p i pp pi l) in
      omega (arith, o.left, L.beside p i pp pi l e)

  -- The label of a point below p and left of p ends below p's row, if it doesn't reach p's leader.
  pub ends-below : (i p : ℕ) → Point H i → Point H p → i < p → H.rank i < H.rank p → (Hits H i p → ⊥) → H.row i + H.h ≤ H.row p
  ends-below i p pi pp l r f =
      less (H.row p) (H.row i + H.h)
      (λ u. absurd (f (record { from = L.rows i p pi pp l; to = u; left = L.columns i p pi pp r })))
      (λ u. u)

  -- A label below p and right of p that overlaps one above p and left of p reaches over p.
  pub overlap-reaches : (i p k : ℕ) → Point H i → Point H p → Point H k → i < p → p < k
      → H.rank p < H.rank i → H.rank k < H.rank p → Overlap H k i → Reaches H p i
  overlap-reaches i p k pi pp pk l m r s o = record {
    low = pi.low;
    high = l;
    over = omega (arith, o.below, L.rows p k pp pk m);
    right = L.ties p i pp pi r l;
    near = omega (arith, o.right, L.columns k p pk pp s);
  }

  -- A label that reaches over p overlaps p's,
  pub reaches-overlaps : (p i : ℕ) → Point H p → Reaches H p i → Overlap H p i
  reaches-overlaps p i pp k =
      let pi : Point H i = record { low = k.low; high = omega (arith, k.high, pp.high) } in
      record {
        left = omega (arith, k.right);
        right = k.near;
        below = k.over;
        above = omega (arith, L.rows i p pi pp k.high, L.h-pos);
      }

  -- and is right of p.
  pub reaches-right : (p i : ℕ) → Point H p → Reaches H p i → H.rank p < H.rank i
  reaches-right p i pp k =
      let pi : Point H i = record { low = k.low; high = omega (arith, k.high, pp.high) } in
      right_of (H.rank p) i (L.rank_below p pp) pi (rw (L.at_rank-rank p pp) k.right)

  -- A label below p and right of p that overlaps p's reaches over p.
  pub overlap-right-reaches : (p i : ℕ) → Point H p → Point H i → i < p → H.rank p < H.rank i → Overlap H p i → Reaches H p i
  overlap-right-reaches p i pp pi l r o =
      record { low = pi.low; high = l; over = o.below; right = L.ties p i pp pi r l; near = o.right }

  -- Two labels that reach over p overlap.
  pub two-overlap : (p i k : ℕ) → Point H p → Reaches H p i → Reaches H p k → Overlap H i k
  two-overlap p i k pp m n =
      let ri = L.rows i p (record { low = m.low; high = omega (arith, m.high, pp.high) }) pp m.high in
      let rk = L.rows k p (record { low = n.low; high = omega (arith, n.high, pp.high) }) pp n.high in
      record { left = omega arith; right = omega arith; below = omega arith; above = omega arith }

  -- A label below a that reaches over p, which is above a and left of a, reaches over a, if it doesn't reach a's leader.
  pub reaches-lower : (i a p : ℕ) → Point H a → Point H p → i < a → a < p → H.rank p < H.rank a → Reaches H p i → (Hits H i a → ⊥)
      → Reaches H a i
  reaches-lower i a p pa pp l m r k f =
      let pi : Point H i = record { low = k.low; high = omega (arith, pa.high) } in
      let ria = L.rows i a pi pa l in
      let rap = L.rows a p pa pp m in
      let cpa = L.columns p a pp pa r in
      record {
        low = k.low;
        high = l;
        over = omega arith;
        right = less (H.column a) (H.column i) (λ u. u) (λ u. absurd (f (record { from = ria; to = omega arith; left = u })));
        near = omega arith;
      }

-- A point strictly between a and b is a point.
pub inner : {H : Heights} {S : ℕ → Bool} {t a b q : ℕ} → Matches H S t a b q → (i : ℕ) → a < i → i < b → Point H i
inner s i l u = record { low = omega arith; high = omega (arith, s.b-le) }

module _ {H : Heights} (L : Sorted H) {S : ℕ → Bool} {t a b q : ℕ} (s : Matches H S (suc t) a b q) where
  -- The point of rank t is inside, or isn't between: the choice matches the slab with one rank less.
  pub match-same : (Between a (H.at_rank t) b → S (H.at_rank t) ≡ true) → Matches H S t a b q
  match-same f = record {
    t-le = omega (arith, s.t-le);
    ordered = s.ordered;
    b-le = s.b-le;
    a-out = s.a-out;
    b-out = s.b-out;
    a-rank = λ k. omega (arith, s.a-rank k);
    b-rank = λ k. omega (arith, s.b-rank k);
    right = λ i l u r. same (H.rank i) t
        (λ z. let e : i ≡ H.at_rank t = rank_is L t i (inner s i l u) z in rw e (f (record { low = omega arith; high = omega arith })))
        (λ ne. s.right i l u (omega arith));
    q-in = s.q-in;
    q-reaches = s.q-reaches;
  }

  -- A label that reaches over the point of rank t from between a and b belongs to an inside point.
  pub newer-in : Between a (H.at_rank t) b → (r : ℕ) → Reaches H (H.at_rank t) r → a < r → S r ≡ true
  newer-in k r m l =
      s.right r l (omega (arith, m.high, k.high)) (right_of L t r s.t-le (inner s r l (omega (arith, m.high, k.high))) m.right)

  -- The point that `reach` gives is inside.
  pub reach-in : Between a (H.at_rank t) b → (r : ℕ) → Reached H a (H.at_rank t) q r → 1 ≤ r → S r ≡ true
  reach-in k r (newer m l) z = newer-in k r m l
  reach-in k r (older m e) z = rw e (s.q-in m.low)
  reach-in k r (nobody e) z = absurd (omega arith)

  -- Its label reaches over the point of rank t.
  pub reach-reaches : (r : ℕ) → Reached H a (H.at_rank t) q r → 1 ≤ r → Reaches H (H.at_rank t) r
  reach-reaches r (newer m l) z = m
  reach-reaches r (older m e) z = rw e m
  reach-reaches r (nobody e) z = absurd (omega arith)

  module _ (k : Between a (H.at_rank t) b) (e : S (H.at_rank t) ≡ false) where
    -- A point between other than that of rank t, of rank t or more, is inside.
    rest : (i : ℕ) → a < i → i < b → (i ≡ H.at_rank t → ⊥) → t ≤ H.rank i → S i ≡ true
    rest i l u ne r = let nr : H.rank i ≡ t → ⊥ = λ z. ne (rank_is L t i (inner s i l u) z) in s.right i l u (omega arith)

    -- The point of rank t is outside: the choice matches the part below it,
    pub match_low : Matches H S t a (H.at_rank t) q
    match_low = record {
      t-le = omega (arith, s.t-le);
      ordered = k.low;
      b-le = omega (arith, (L.at_rank-point t s.t-le).high);
      a-out = s.a-out;
      b-out = λ _. e;
      a-rank = λ z. omega (arith, s.a-rank z);
      b-rank = λ z. omega (arith, L.rank-at_rank t s.t-le);
      right = λ i l u r. rest i l (omega (arith, k.high)) (λ z. omega arith) r;
      q-in = s.q-in;
      q-reaches = s.q-reaches;
    }

    -- and the part above it.
    pub match-high : Matches H S t (H.at_rank t) b (reach H a (H.at_rank t) q)
    match-high = record {
      t-le = omega (arith, s.t-le);
      ordered = k.high;
      b-le = s.b-le;
      a-out = λ _. e;
      b-out = s.b-out;
      a-rank = λ z. omega (arith, L.rank-at_rank t s.t-le);
      b-rank = λ z. omega (arith, s.b-rank z);
      right = λ i l u r. rest i (omega (arith, k.low)) u (λ z. omega arith) r;
      q-in = reach-in k (reach H a (H.at_rank t) q) (reach-is H a (H.at_rank t) q);
      q-reaches = reach-reaches (reach H a (H.at_rank t) q) (reach-is H a (H.at_rank t) q);
    }
