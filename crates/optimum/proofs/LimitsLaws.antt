-- Top and high of a point: how loops find them, and that writing them leaves the points as they are. Assumes nothing.
use Rattle.std.specs.Prelude.{◌≡◌, ℕ, suc, ◌+◌, ◌-◌, ◌*◌, ◌<◌, ◌≤◌, Bool, true, false, List, length, ◌≢◌, nat_eq, slice_index, slice_index_or, slice_set, refl}
use Rattle.std.proofs.Common.{sym, ◌∙◌, length-set, get_or-set_same, get_or-set_other}
use Rattle.std.proofs.Math.Path.{ap}
use native.Mathlib.Omega.{arith}
use borrow.Author.Tests.{leb-true, leb-false}
use Rattle.labeling.proofs.Decide.{same, not-both, Decides, dec-and, dec-le, dec-lt, less, dec-unique, dec-map}
use Rattle.recurrence.specs.Recurrence.{Heights, Point, Sorted, reaches_over, greatest}
use Rattle.recurrence.proofs.RecurrenceTests.{dec-reaches}
use Rattle.recurrence.specs.Comparisons.{least, overlaps_above, high_of, top_of}
use Rattle.recurrence.proofs.Comparisons.{greatest-unique, least-unique, dec-high}
use Rattle.orders.specs.Arrays.{heights_of, position_at}
use Rattle.orders.specs.Words.{value_at}
use Rattle.orders.specs.Layout.{field_cells, row_field, rank_field, at_rank_field, top_field, high_field, weight_field}
use Rattle.orders.specs.Layout.{allowed_field, position_field, count_cell, width_cell, height_cell, array_cells, first_top, first_high}
use Rattle.optimum.specs.SameHeights.{SameHeights}
use Rattle.optimum.proofs.SameHeights.{sorted-same, high_same, top-same}
use Rattle.optimum.specs.Limits.{AtMost, AtLeast, label_below, column_within, InOrder, Kept, Limited, LimitedTo}

module _ {f : ℕ → Bool} {m : ℕ} where
  pub greatest-found : {j : ℕ} → AtMost f m j → 1 ≤ j → j ≤ m → f j ≡ true → j ≡ greatest f m
  greatest-found {j} a l u e = sym (greatest-unique f m j (λ z. record { low = l; high = u; passes = e }) a.most)

  pub greatest-none : AtMost f m 0 → 0 ≡ greatest f m
  greatest-none a = sym (greatest-unique f m 0 (λ z. absurd (omega arith)) a.most)

  pub greatest-next : {j : ℕ} → AtMost f m j → f j ≡ false → AtMost f m (j - 1)
  greatest-next {j} a e = record { most = λ k p. same k j (λ z. absurd (not-both p.passes (rw z e))) (λ ne. omega (arith, a.most k p)) }

  pub least-found : {j : ℕ} → AtLeast f m j → 1 ≤ j → j ≤ m → f j ≡ true → j ≡ least f (suc m) m
  least-found {j} a l u e =
      sym (least-unique f (suc m) m j (omega arith) (omega arith) (λ z. record { low = l; high = u; passes = e }) a.least)

  pub least-none : {j : ℕ} → AtLeast f m j → m < j → suc m ≡ least f (suc m) m
  least-none {j} a l =
      sym (least-unique f (suc m) m (suc m) (omega arith) (omega arith) (λ z. absurd (z refl))
      (λ k p. omega (arith, a.least k p, p.high)))

  pub least-next : {j : ℕ} → AtLeast f m j → f j ≡ false → AtLeast f m (j + 1)
  least-next {j} a e = record { least = λ k p. same k j (λ z. absurd (not-both p.passes (rw z e))) (λ ne. omega (arith, a.least k p)) }

dec-within : (H : Heights) (j from to : ℕ) → Decides (column_within H j from to) ((from ≤ H.column j) × (H.column j < to))
unfolding column_within
dec-within H j from to = dec-and (dec-le from (H.column j)) (dec-lt (H.column j) to)

module _ {H : Heights} (L : Sorted H) where
  -- Rows rise with height.
  rise : (i j : ℕ) → Point H i → Point H j → i ≤ j → H.row i ≤ H.row j
  rise i j p q z = same i j (λ e. rw e (omega arith)) (λ ne. L.rows i j p q (omega arith))

  -- Two points have two ranks.
  ranks-apart : (i j : ℕ) → Point H i → Point H j → (i ≢ j) → H.rank i ≢ H.rank j
  ranks-apart i j p q ne e = ne (sym (L.at_rank-rank i p) ∙ (ap H.at_rank e ∙ L.at_rank-rank j q))

  module _ (i : ℕ) (p : Point H i) where
    -- What the loops for the point i know at j: below i for top, above i for high.
    module _ {j : ℕ} where
      module _ (l : 1 ≤ j) (u : j < i) (a : AtMost (reaches_over H i) H.n j) where
        here-below : Point H j
        here-below = record { low = l; high = omega (arith, p.high) }

        -- None further down reaches over i.
        pub top-ends : label_below H j i ≡ true → 0 ≡ top_of H i
        unfolding top_of label_below
        top-ends e =
            let b : H.row j + H.h ≤ H.row i = leb-true (H.row j + H.h) (H.row i) e in
            greatest-none (record {
              most = λ k x.
                  let o = (dec-reaches H i k).is x.passes in
                  absurd (omega (arith, o.over, rise k j (record { low = x.low; high = x.high }) here-below (a.most k x)));
            })

        -- The columns decide.
        module _ (b : label_below H j i ≡ false) {from to : ℕ} (f : from ≡ H.column i + 1) (t : to ≡ H.column i + H.w) where
          top-test : reaches_over H i j ≡ column_within H j from to
          unfolding label_below
          top-test =
              let c : H.row i < H.row j + H.h = leb-false (H.row j + H.h) (H.row i) b in
              dec-unique (dec-reaches H i j)
              (dec-map
              (λ x. let y = x.0 in let z = x.1 in record { low = l; high = u; over = c; right = omega arith; near = omega arith })
              (λ x. (omega (arith, x.right), omega (arith, x.near)))
              (dec-within H j from to))

          pub top-found : column_within H j from to ≡ true → j ≡ top_of H i
          unfolding top_of
          top-found e = greatest-found a l here-below.high (top-test ∙ e)

          pub top-next : column_within H j from to ≡ false → AtMost (reaches_over H i) H.n (j - 1)
          top-next e = greatest-next a (top-test ∙ e)

      module _ (l : i < j) (u : j ≤ H.n) (a : AtLeast (overlaps_above H i) H.n j) where
        here-above : Point H j
        here-above = record { low = omega arith; high = u }

        -- None further up overlaps i.
        pub high-ends : label_below H i j ≡ true → suc H.n ≡ high_of H i
        unfolding high_of label_below
        high-ends e =
            let b : H.row i + H.h ≤ H.row j = leb-true (H.row i + H.h) (H.row j) e in
            least-none {j = suc H.n} (record {
              least = λ k x.
                  let o = ((dec-high H i k).is x.passes).1.1 in
                  absurd (omega (arith, o.above, rise j k here-above (record { low = x.low; high = x.high }) (a.least k x)));
            }) (omega arith)

        -- The columns decide.
        module _ (b : label_below H i j ≡ false) {from to : ℕ} (f : from ≡ H.column i) (t : to ≡ H.column i + H.w) where
          high-test : overlaps_above H i j ≡ column_within H j from to
          unfolding label_below
          high-test =
              let c : H.row j < H.row i + H.h = leb-false (H.row i + H.h) (H.row j) b in
              let y = L.rows i j p here-above l in
              let ne = ranks-apart i j p here-above (λ e. omega arith) in
              dec-unique (dec-high H i j)
              (dec-map
              (λ x.
              let v = x.0 in
              let z = x.1 in (
                l,
                (
                  less (H.rank i) (H.rank j) (λ k. k) (λ k. absurd (omega (arith, L.ties j i here-above p (omega arith) l))),
                  record { left = omega (arith, L.w-pos); right = omega arith; below = omega (arith, L.h-pos); above = c },
                ),
              ))
              (λ x. (omega (arith, L.columns i j p here-above x.1.0), omega (arith, x.1.1.right)))
              (dec-within H j from to))

          pub high-found : column_within H j from to ≡ true → j ≡ high_of H i
          unfolding high_of
          high-found e = least-found a here-above.low u (high-test ∙ e)

          pub high-next : column_within H j from to ≡ false → AtLeast (overlaps_above H i) H.n (j + 1)
          high-next e = least-next a (high-test ∙ e)

-- At the start and at the end of a loop.
pub top_start : (H : Heights) (i : ℕ) → AtMost (reaches_over H i) H.n (i - 1)
top_start H i = record { most = λ k p. omega (arith, ((dec-reaches H i k).is p.passes).high) }

pub top-none : (H : Heights) (i : ℕ) → AtMost (reaches_over H i) H.n 0 → 0 ≡ top_of H i
unfolding top_of
top-none H i a = greatest-none a

pub high-start : (H : Heights) (i : ℕ) → AtLeast (overlaps_above H i) H.n (i + 1)
high-start H i = record { least = λ k p. omega (arith, ((dec-high H i k).is p.passes).0) }

pub high-none : (H : Heights) (i j : ℕ) → H.n < j → AtLeast (overlaps_above H i) H.n j → suc H.n ≡ high_of H i
unfolding high_of
high-none H i j l a = least-none a l

module _ {s r : List ℕ} (K : Kept s r) where
  pub kept-position : (i : ℕ) → i < field_cells → position_at r i ≡ position_at s i
  unfolding position_at
  kept-position i l = K.cell (position_field + i) (λ a b. omega arith)

  pub kept_same : (heights_of s).n ≤ 32 → SameHeights (heights_of s) (heights_of r)
  unfolding heights_of value_at
  kept_same few = record {
    few = few;
    n = K.cell count_cell (λ a b. omega arith);
    w = K.cell width_cell (λ a b. omega arith);
    h = K.cell height_cell (λ a b. omega arith);
    column = λ i l. K.cell i (λ a b. omega arith);
    row = λ i l. K.cell (row_field + i) (λ a b. omega arith);
    weight = λ i l.
        let p = (weight_field + i) * 4 in
        rw (
          K.cell p (λ a b. omega arith),
          K.cell (p + 1) (λ a b. omega arith),
          K.cell (p + 2) (λ a b. omega arith),
          K.cell (p + 3) (λ a b. omega arith),
        );
    allowed = λ i l. ap (λ x. nat_eq x 1) (K.cell (allowed_field + i) (λ a b. omega arith));
    at_rank = λ t l. K.cell (at_rank_field + t) (λ a b. omega arith);
    rank = λ i l. K.cell (rank_field + i) (λ a b. omega arith);
  }

  pub kept-order : InOrder s → InOrder r
  kept-order o = record {
    long = K.long ∙ o.long;
    few = omega (arith, (kept_same o.few).n, o.few);
    sorted = sorted-same (kept_same o.few) o.sorted;
  }

pub limited-none : (s : List ℕ) → LimitedTo s 0 s
limited-none s = record {
  kept = record { long = refl; cell = λ c x. refl };
  top = λ k b. absurd (omega arith);
  high = λ k b. absurd (omega arith);
}

-- One more point, whose top is t and whose high is h.
module _ {s : List ℕ} {m : ℕ} {r : List ℕ} (few : m < 32) (long : length r ≡ array_cells) (T : LimitedTo s m r) (t h : ℕ) where
  abbrev with_top : List ℕ
  with_top = slice_set r (first_top + m) t

  abbrev with_high : List ℕ
  with_high = slice_set with_top (first_high + m) h

  -- a cell that isn't written now
  beside : (c : ℕ) → (c ≢ first_top + m) → (c ≢ first_high + m) → slice_index with_high c ≡ slice_index r c
  beside c x y = get_or-set_other with_top (first_high + m) c h 0 y ∙ get_or-set_other r (first_top + m) c t 0 x

  top-here : slice_index_or with_high (first_top + m) 0 ≡ t
  top-here =
      get_or-set_other with_top (first_high + m) (first_top + m) h 0 (λ e. omega arith) ∙ get_or-set_same r (first_top + m) t 0 (omega arith)

  high-here : slice_index_or with_high (first_high + m) 0 ≡ h
  high-here = get_or-set_same with_top (first_high + m) h 0 (simp length-set (omega arith))

  pub limited-more : t ≡ top_of (heights_of s) (m + 1) → h ≡ high_of (heights_of s) (m + 1) → LimitedTo s (m + 1) with_high
  limited-more e f = record {
    kept = record {
      long = simp length-set T.kept.long;
      cell = λ c x. beside c (λ z. x (omega arith) (omega arith)) (λ z. x (omega arith) (omega arith)) ∙ T.kept.cell c x;
    };
    top = λ k b.
        same k m
        (λ z. rw z (top-here ∙ e))
        (λ ne. beside (first_top + k) (λ z. omega arith) (λ z. omega arith) ∙ T.top k (omega arith));
    high = λ k b.
        same k m
        (λ z. rw z (high-here ∙ f))
        (λ ne. beside (first_high + k) (λ z. omega arith) (λ z. omega arith) ∙ T.high k (omega arith));
  }

-- What was written for the points 1 to m, from cell c + 1 on.
at-point : (c : ℕ) (f : ℕ → ℕ) (r : List ℕ) {m : ℕ} → ((k : ℕ) → k < m → slice_index r (c + 1 + k) ≡ f (k + 1)) → (i : ℕ) → 1 ≤ i → i ≤ m
    → slice_index r (c + i) ≡ f i
at-point c f r {m} w i l u =
    let x : c + i ≡ c + 1 + (i - 1) = omega arith in
    let y : i - 1 + 1 ≡ i = omega arith in
    ap (λ z. slice_index r z) x ∙ (w (i - 1) (omega arith) ∙ ap f y)

-- All points.
pub limited : {s r : List ℕ} → InOrder s → LimitedTo s (heights_of s).n r → Limited s r
limited {s} {r} o T =
    let H = kept_same T.kept o.few in
    let within : (i : ℕ) → Point (heights_of r) i → i ≤ (heights_of s).n = λ i p. omega (arith, H.n, p.high) in
    record {
      kept = T.kept;
      top-is = λ i p. at-point top_field (top_of (heights_of s)) r T.top i p.low (within i p) ∙ sym (top-same H i (within i p));
      high_is = λ i p. at-point high_field (high_of (heights_of s)) r T.high i p.low (within i p) ∙ sym (high_same H i (within i p));
    }
