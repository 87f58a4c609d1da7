-- The theorems on the definitions of specs/SameHeights.antt. Assumes nothing.
use Rattle.std.specs.Prelude.{◌≡◌, ℕ, zero, suc, ◌<◌, ◌≤◌, Bool, cond}
use Rattle.std.proofs.Math.Path.{refl, ap}
use Rattle.std.proofs.Common.{sym, ◌∙◌, arith}
use Rattle.labeling.specs.Points.{Points}
use Rattle.recurrence.specs.Totals.{all}
use Rattle.recurrence.specs.Recurrence.{Heights, Point, Sorted, overlaps, reaches_over, greatest, total}
use Rattle.recurrence.proofs.RecurrenceTests.{greatest-same}
use Rattle.recurrence.specs.Comparisons.{least, overlaps_above, high_of, top_of}
use Rattle.recurrence.specs.Positions.{Arranged}
use Rattle.orders.specs.Layout.{field_cells}
use Rattle.optimum.specs.SameHeights.{SameHeights}

-- A test that gives the same of 1 to m has the same least.
least-same : (f g : ℕ → Bool) (d m : ℕ) → ((i : ℕ) → 1 ≤ i → i ≤ m → f i ≡ g i) → least f d m ≡ least g d m
unfolding least
least-same f g d zero e = refl
least-same f g d (suc m) e =
    least-same f g (cond (f (suc m)) (suc m) d) m (λ i k l. e i k (omega arith))
    ∙ ap (λ x. least g (cond x (suc m) d) m) (e (suc m) (omega arith) (omega arith))

module _ {H G : Heights} (S : SameHeights H G) where
  -- A point of the one is a point of the other, and has its cells.
  back : (i : ℕ) → Point G i → Point H i
  back i p = record { low = p.low; high = omega (arith, p.high, S.n) }

  pub there : (i : ℕ) → Point H i → Point G i
  there i p = record { low = p.low; high = omega (arith, p.high, S.n) }

  small : (i : ℕ) → i ≤ H.n → i < field_cells
  small i l = omega (arith, S.few)

  inside : (i : ℕ) → Point G i → i < field_cells
  inside i p = omega (arith, p.high, S.n, S.few)

  -- THE ORDERS
  pub sorted-same : Sorted H → Sorted G
  sorted-same L = record {
    w-pos = omega (arith, S.w, L.w-pos);
    h-pos = omega (arith, S.h, L.h-pos);
    rows = λ i j p q l. omega (arith, S.row i (inside i p), S.row j (inside j q), L.rows i j (back i p) (back j q) l);
    beside = λ i j p q l e.
        omega (
          arith,
          S.column i (inside i p),
          S.column j (inside j q),
          L.beside i j (back i p) (back j q) l (omega (arith, S.row i (inside i p), S.row j (inside j q))),
        );
    columns = λ i j p q l.
        omega (
          arith,
          S.column i (inside i p),
          S.column j (inside j q),
          L.columns i j (back i p) (back j q) (omega (arith, S.rank i (inside i p), S.rank j (inside j q))),
        );
    ties = λ i j p q l m.
        omega (
          arith,
          S.column i (inside i p),
          S.column j (inside j q),
          L.ties i j (back i p) (back j q) (omega (arith, S.rank i (inside i p), S.rank j (inside j q))) m,
        );
    at_rank-point = λ t l.
        let l' : t < H.n = omega (arith, S.n) in
        rw (S.at_rank t (small t (omega arith))) (there (H.at_rank t) (L.at_rank-point t l'));
    rank-at_rank = λ t l.
        let l' : t < H.n = omega (arith, S.n) in
        let p = L.at_rank-point t l' in
        ap G.rank (S.at_rank t (small t (omega arith))) ∙ (S.rank (H.at_rank t) (small (H.at_rank t) p.high) ∙ L.rank-at_rank t l');
    at_rank-rank = λ i p.
        let q = back i p in
        let b = L.rank_below i q in
        ap G.at_rank (S.rank i (inside i p)) ∙ (S.at_rank (H.rank i) (small (H.rank i) (omega arith)) ∙ L.at_rank-rank i q);
    rank_below = λ i p. omega (arith, S.rank i (inside i p), S.n, L.rank_below i (back i p));
  }

  -- THE TESTS
  overlaps-same : (i j : ℕ) → i < field_cells → j < field_cells → overlaps G i j ≡ overlaps H i j
  unfolding overlaps
  overlaps-same i j l m = rw (S.column i l, S.column j m, S.row i l, S.row j m, S.w, S.h)

  reaches_same : (p i : ℕ) → p < field_cells → i < field_cells → reaches_over G p i ≡ reaches_over H p i
  unfolding reaches_over
  reaches_same p i l m = rw (S.column i m, S.column p l, S.row i m, S.row p l, S.w, S.h)

  -- THE TWO NUMBERS
  pub high_same : (i : ℕ) → i ≤ H.n → high_of G i ≡ high_of H i
  unfolding high_of overlaps_above
  high_same i l =
      ap (λ x. least (overlaps_above G i) (suc x) x) S.n
      ∙ least-same (overlaps_above G i) (overlaps_above H i) (suc H.n) H.n
      (λ j k m. rw (S.rank i (small i l), S.rank j (small j m), overlaps-same i j (small i l) (small j m)))

  pub top-same : (i : ℕ) → i ≤ H.n → top_of G i ≡ top_of H i
  unfolding top_of
  top-same i l =
      ap (greatest (reaches_over G i)) S.n
      ∙ greatest-same (reaches_over G i) (reaches_over H i) H.n (λ j k m. reaches_same i j (small i l) (small j m))

  -- THE WEIGHTS AND THE POSITIONS
  pub total-same : (m : ℕ) → m ≤ H.n → total G all m ≡ total H all m
  unfolding total
  total-same zero l = refl
  total-same (suc m) l = rw (S.weight (suc m) (small (suc m) l), total-same m (omega arith))

  pub arranged-same : (P : Points) (v : ℕ → ℕ) (f : ℕ → Bool) (position place : ℕ → ℕ)
      → ((i : ℕ) → i < field_cells → place i ≡ position i) → Arranged P v f H position → Arranged P v f G place
  arranged-same P v f position place e A = record {
    n = S.n ∙ A.n;
    w = S.w ∙ A.w;
    h = S.h ∙ A.h;
    below = λ i p. omega (arith, e i (inside i p), A.below i (back i p));
    once = λ i j p q z. A.once i j (back i p) (back j q) (omega (arith, e i (inside i p), e j (inside j q)));
    each = λ p l. let x = A.each p l in (x.0, there x.0 x.1, e x.0 (small x.0 x.1.high) ∙ x.2);
    column = λ i p. S.column i (inside i p) ∙ (A.column i (back i p) ∙ ap P.column (sym (e i (inside i p))));
    row = λ i p. S.row i (inside i p) ∙ (A.row i (back i p) ∙ ap P.row (sym (e i (inside i p))));
    weight = λ i p. S.weight i (inside i p) ∙ (A.weight i (back i p) ∙ ap v (sym (e i (inside i p))));
    allowed = λ i p. S.allowed i (inside i p) ∙ (A.allowed i (back i p) ∙ ap f (sym (e i (inside i p))));
  }
