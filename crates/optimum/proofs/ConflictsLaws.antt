-- The theorems on the definitions of specs/Conflicts.antt. Assumes nothing.
use Rattle.std.specs.Prelude.{◌≡◌, ℕ, suc, ◌+◌, ◌<◌, ◌≤◌, Bool, true, false, not, ◌&&◌, ◌==◌, ◌≢◌, nat_le, nat_lt, refl}
use Rattle.std.proofs.Math.Path.{sym, ap}
use Rattle.std.proofs.Common.{◌∙◌}
use native.Mathlib.Omega.{arith}
use borrow.Author.Tests.{lt-ltb, le-ltb, le-leb, leb-true, eq-eqb, ne_eqb}
use Rattle.labeling.proofs.Decide.{same, not-both, less, dec-false}
use Rattle.recurrence.specs.Recurrence.{Heights, Point, Sorted, overlaps, reaches_over, reach, may_be_inside, rows_differ}
use Rattle.recurrence.specs.RecurrenceTests.{Between}
use Rattle.recurrence.proofs.RecurrenceTests.{dec-reaches}
use Rattle.recurrence.specs.Safe.{unreached}
use Rattle.recurrence.proofs.Safe.{dec-unreached}
use Rattle.recurrence.specs.Comparisons.{top_of}
use Rattle.recurrence.proofs.Comparisons.{reach-top, may-be-inside-compared}
use Rattle.format.specs.Stretches.{stretches_overlap}
use Rattle.optimum.specs.Limits.{label_below}
use Rattle.optimum.specs.Conflicts.{ends_below, Candidate, beside_reaching, above_top, Climbing}

-- STRETCHES

pub stretches-not : (x y d : ℕ) → y + d ≤ x → false ≡ stretches_overlap x y d
stretches-not x y d l = rw (le-ltb x (y + d) l)

pub stretches-rest : (x y d : ℕ) → x < y + d → nat_lt y (x + d) ≡ stretches_overlap x y d
stretches-rest x y d l = rw (lt-ltb x (y + d) l)

-- OVERLAPS

overlaps-stretches : (H : Heights) (i j : ℕ)
    → overlaps H i j ≡ (stretches_overlap (H.column i) (H.column j) H.w && stretches_overlap (H.row i) (H.row j) H.h)
unfolding overlaps
overlaps-stretches H i j = assoc (nat_lt (H.column i) (H.column j + H.w)) (nat_lt (H.column j) (H.column i + H.w)) _
  where
    assoc : (a b c : Bool) → (a && (b && c)) ≡ ((a && b) && c)
    assoc true b c = refl
    assoc false b c = refl

pub overlaps-not : (H : Heights) (i j : ℕ) → stretches_overlap (H.column i) (H.column j) H.w ≡ false → false ≡ overlaps H i j
overlaps-not H i j e = sym (overlaps-stretches H i j ∙ rw e)

pub overlaps-rest : (H : Heights) (i j : ℕ) (z : Bool) → stretches_overlap (H.column i) (H.column j) H.w ≡ true
    → z ≡ stretches_overlap (H.row i) (H.row j) H.h → z ≡ overlaps H i j
overlaps-rest H i j z e f = f ∙ sym (overlaps-stretches H i j ∙ rw e)

-- REACHES OVER

module _ (H : Heights) (p i : ℕ) where
  pub reaches-below : H.row i + H.h ≤ H.row p → false ≡ reaches_over H p i
  reaches-below l = sym (dec-false (dec-reaches H p i) (λ r. omega (arith, r.over)))

  pub reaches-left : H.column i ≤ H.column p → false ≡ reaches_over H p i
  reaches-left l = sym (dec-false (dec-reaches H p i) (λ r. omega (arith, r.right)))

  pub reaches-rest : 1 ≤ i → i ≤ p → H.row p < H.row i + H.h → H.column p < H.column i
      → nat_lt (H.column i) (H.column p + H.w) ≡ reaches_over H p i
  unfolding reaches_over
  reaches-rest l u m k =
      let u' : i < p = same i p (λ e. absurd (omega (arith, ap H.column e))) (λ ne. omega arith) in
      rw (le-leb 1 i l, lt-ltb i p u', lt-ltb (H.row p) (H.row i + H.h) m, lt-ltb (H.column p) (H.column i) k)

-- ENDS BELOW

pub ends-boundary : (H : Heights) (p b : ℕ) → H.n < b → true ≡ ends_below H p b
unfolding ends_below
ends-boundary H p b l = rw (lt-ltb H.n b l)

pub ends-point : (H : Heights) (p b : ℕ) → b ≤ H.n → nat_le (H.row p + H.h) (H.row b) ≡ ends_below H p b
unfolding ends_below
ends-point H p b l = rw (le-ltb H.n b l)

-- IN ANOTHER ROW

pub differ-boundary : (H : Heights) (p b : ℕ) → H.n < b → true ≡ rows_differ H p b
unfolding rows_differ
differ-boundary H p b l = rw (lt-ltb H.n b l)

pub differ-point : (H : Heights) (p b : ℕ) → b ≤ H.n → not (H.row p == H.row b) ≡ rows_differ H p b
unfolding rows_differ
differ-point H p b l = rw (le-ltb H.n b l)

-- THE LABEL THAT REACHES OVER A CUT

module _ (H : Heights) (a p q : ℕ) (k : Point H p) where
  pub reach-newer : (top : ℕ) → top ≡ top_of H p → a < top → top ≡ reach H a p q
  reach-newer top e l = sym (reach-top H a p q k.high ∙ rw (← e, lt-ltb a top l))

  pub reach-nobody : (top : ℕ) → top ≡ top_of H p → top ≤ a → q ≡ 0 → 0 ≡ reach H a p q
  unfolding reaches_over
  reach-nobody top e l z = sym (reach-top H a p q k.high ∙ rw (← e, le-ltb a top l, z))

  pub reach-older : (top : ℕ) → top ≡ top_of H p → top ≤ a → reaches_over H p q ≡ true → q ≡ reach H a p q
  reach-older top e l z = sym (reach-top H a p q k.high ∙ rw (← e, le-ltb a top l, z))

  pub reach-none : (top : ℕ) → top ≡ top_of H p → top ≤ a → reaches_over H p q ≡ false → 0 ≡ reach H a p q
  reach-none top e l z = sym (reach-top H a p q k.high ∙ rw (← e, le-ltb a top l, z))

-- They decide whether an open point may be inside.
pub inside-tested : {H : Heights} → Sorted H → {a b q p : ℕ} → Candidate H a b q p
    → (r : Bool) → r ≡ (H.allowed p && above_top H a b q p) → r ≡ may_be_inside H (H.rank p) a b q
unfolding ends_below
inside-tested {H} L {a} {b} {q} {p} x r d =
    let e : H.at_rank (H.rank p) ≡ p = L.at_rank-rank p x.point in
    let k : Between a (H.at_rank (H.rank p)) b = rw e (record { low = x.low; high = x.high }) in
    d ∙ sym (rw e at (may-be-inside-compared L (H.rank p) a b q (L.rank_below p x.point) k x.upper))

-- The last of them: there is no label that reaches over the lower end, or it doesn't overlap.
pub beside_none : (H : Heights) (q p : ℕ) → q ≡ 0 → true ≡ beside_reaching H q p
beside_none H q p e = rw (eq-eqb q 0 e)

pub beside-some : (H : Heights) (q p : ℕ) (meet : Bool) → (q ≢ 0) → meet ≡ overlaps H p q → not meet ≡ beside_reaching H q p
beside-some H q p meet ne e = rw (ne_eqb q 0 ne, e)

-- HOW FAR A LABEL REACHES

pub climbing-first : (H : Heights) (p b : ℕ) → p < b → Climbing H p b (p + 1)
climbing-first H p b l = record { low = omega arith; high = omega arith; none = λ z m n. absurd (omega arith) }

module _ {H : Heights} (L : Sorted H) {p b y : ℕ} (pos : 1 ≤ p) (upper : b ≤ suc H.n) (x : Climbing H p b y) where
  -- It ends below y, and so below all points above y.
  pub climbing-below : y < b → label_below H p y ≡ true → true ≡ unreached H p b
  unfolding label_below
  climbing-below l e =
      let ends : H.row p + H.h ≤ H.row y = leb-true _ _ e in
      sym ((dec-unreached H p b upper).of (record {
        none = λ z m n r. less z y
            (λ u. x.none z m u r)
            (λ u.
            let up : H.row y ≤ H.row z = same z y
            (λ v. rw v (omega arith))
            (λ ne. L.rows y z (record { low = omega (arith, x.low); high = omega arith })
            (record { low = omega arith; high = omega arith }) (omega arith)) in
            omega (arith, r.over));
      }))

  -- It reaches over y,
  pub climbing-reached : y < b → reaches_over H y p ≡ true → false ≡ unreached H p b
  climbing-reached l e = sym (dec-false (dec-unreached H p b upper) (λ f. f.none y x.low l ((dec-reaches H y p).is e)))

  -- or not;
  pub climbing-next : y < b → reaches_over H y p ≡ false → Climbing H p b (y + 1)
  climbing-next l e = record {
    low = omega (arith, x.low);
    high = omega arith;
    none = λ z m n r. same z y
        (λ v. not-both ((dec-reaches H y p).of (rw v at r)) e)
        (λ ne. x.none z m (omega arith) r);
  }

  -- or y is b.
  pub climbing-last : b ≤ y → true ≡ unreached H p b
  climbing-last l = sym ((dec-unreached H p b upper).of (record { none = λ z m n r. x.none z m (omega arith) r }))
