-- From height order back to positions: the best of the points is the optimum of the points in height order.
-- Assumes nothing.
use Rattle.std.specs.Prelude.{◌≡◌, ◌↔◌}
use Rattle.std.proofs.Math.Path.{refl, sym, ap}
use Rattle.std.proofs.Common.{◌∙◌, arith}
use Rattle.std.proofs.Math.Bool.{Bool, true, cond}
use Prim.Native.Nat.{ℕ, zero, suc, ◌≤◌, ◌<◌}
use Rattle.std.proofs.Math.Dec.{eqb}
use Rattle.labeling.specs.Points.{Points, Choice}
use Rattle.labeling.specs.Marks.{LabelOnMap, Valid}
use Rattle.labeling.specs.Conflicts
use Rattle.labeling.specs.Conflicts.{Conflict}
use Rattle.labeling.proofs.Decide.{not-both, decide, same, dec-eq}
use Rattle.labeling.proofs.Pixels.{valid-iff-free}
use Rattle.labeling.specs.Best.{weight_below, weight, Best, best}
use Rattle.labeling.proofs.Greatest.{best-reached, best-is, best-unique}
use Rattle.recurrence.specs.Recurrence
use Rattle.recurrence.specs.Recurrence.{Heights, Point, Sorted, total, greatest}
use Rattle.recurrence.proofs.RecurrenceTests.{greatest-le, greatest-is, greatest-most}
use Rattle.recurrence.specs.Sums.{sum, Lists}
use Rattle.recurrence.proofs.Sums.{sum_same, sum-listed}
use Rattle.recurrence.specs.Optimum.{optimum, chosen}
use Rattle.recurrence.proofs.Optimum.{upper, exact, sound}
use Rattle.recurrence.specs.Positions.{Arranged, SameChoice, Permits, height_of, at_positions}

module _ {P : Points} {v : ℕ → ℕ} {f : ℕ → Bool} {H : Heights} {position : ℕ → ℕ} (A : Arranged P v f H position) where
  -- CONFLICTS

  -- Two labels that share a pixel in height order do so as positions.
  overlap-there : (i j : ℕ) → Point H i → Point H j → Recurrence.Overlap H i j → Conflicts.Overlap P (position i) (position j)
  overlap-there i j pi pj o = omega (arith, A.w, A.h, A.column i pi, A.column j pj, A.row i pi, A.row j pj)

  -- And the other way.
  overlap-back : (i j : ℕ) → Point H i → Point H j → Conflicts.Overlap P (position i) (position j) → Recurrence.Overlap H i j
  overlap-back i j pi pj o =
      let ci = A.column i pi in
      let cj = A.column j pj in
      let ri = A.row i pi in
      let rj = A.row j pj in
      let w = A.w in
      let h = A.h in
      record { left = omega arith; right = omega arith; below = omega arith; above = omega arith }

  -- A label that shares a pixel with a leader in height order does so as positions.
  hits-there : (i j : ℕ) → Point H i → Point H j → Recurrence.Hits H i j → Conflicts.Hits P (position i) (position j)
  hits-there i j pi pj o = omega (arith, A.h, A.column i pi, A.column j pj, A.row i pi, A.row j pj)

  -- And the other way.
  hits-back : (i j : ℕ) → Point H i → Point H j → Conflicts.Hits P (position i) (position j) → Recurrence.Hits H i j
  hits-back i j pi pj o =
      let ci = A.column i pi in
      let cj = A.column j pj in
      let ri = A.row i pi in
      let rj = A.row j pj in
      let h = A.h in
      record { from = omega arith; to = omega arith; left = omega arith }

  -- FREE OF CONFLICTS

  module _ (permits : Permits P f) (R S : ℕ → Bool) (s : SameChoice H position R S) where
    -- A choice of positions without conflicts is one of points in height order.
    free-there : Conflicts.Free P R → Recurrence.Free H S
    unfolding Conflict
    free-there ok = record {
      labels = λ i j pi pj ne e g o. apart i j pi pj ne (rw (s.at i pi, s.at j pj, e, g) (overlap-there i j pi pj o));
      leaders = λ i j pi pj e g o. apart i j pi pj (λ z. not-both e (rw z g)) (rw (s.at i pi, s.at j pj, e, g) (hits-there i j pi pj o));
      rows = λ i j pi pj ne e g o. apart i j pi pj ne (rw (s.at i pi, s.at j pj, e, g) (sym (A.row i pi) ∙ (o ∙ A.row j pj)));
      allowed = λ i pi e. A.allowed i pi ∙ permits.needed R ok (position i) (A.below i pi) (s.at i pi ∙ e);
    }
      where
        apart : (i j : ℕ) → Point H i → Point H j → (i ≡ j → ⊥) → Conflict P R (position i) (position j) → ⊥
        apart i j pi pj ne = ok.apart (position i) (position j) (A.below i pi) (A.below j pj) (λ z. ne (A.once i j pi pj z))

    -- And the other way.
    free_back : Recurrence.Free H S → Conflicts.Free P R
    unfolding Conflict
    free_back ok = record {
      apart = λ p q l m ne c.
          let x = A.each p l in
          let y = A.each q m in
          apart x.0 y.0 x.1 y.1 (λ z. ne (sym x.2 ∙ (ap position z ∙ y.2))) (rw (x.2, y.2) c);
      within = λ p l t. let x = A.each p l in within x.0 x.1 p x.2 l t;
    }
      where
        within : (i : ℕ) → Point H i → (p : ℕ) → position i ≡ p → p < P.n → R p ≡ true → LabelOnMap P p
        within i pi p q l t =
            permits.enough p l (ap f (sym q) ∙ (sym (A.allowed i pi) ∙ ok.allowed i pi (sym (s.at i pi) ∙ (ap R q ∙ t))))

        apart : (i j : ℕ) → Point H i → Point H j → (i ≡ j → ⊥) → Conflict P R (position i) (position j) → ⊥
        apart i j pi pj ne c =
            decide (S i)
            (λ e. decide (S j)
            (λ g. ok.labels i j pi pj ne e g (overlap-back i j pi pj (rw (s.at i pi, s.at j pj, e, g) at c)))
            (λ g. ok.leaders i j pi pj e g (hits-back i j pi pj (rw (s.at i pi, s.at j pj, e, g) at c))))
            (λ e. decide (S j)
            (λ g. ok.leaders j i pj pi g e (hits-back j i pj pi (rw (s.at i pi, s.at j pj, e, g) at c)))
            (λ g.
            let o : P.row (position i) ≡ P.row (position j) = rw (s.at i pi, s.at j pj, e, g) at c in
            ok.rows i j pi pj ne e g (A.row i pi ∙ (o ∙ sym (A.row j pj)))))

    -- A CHOICE OF POSITIONS IS WITHOUT CONFLICTS exactly if it is so in height order;
    pub free-iff : Conflicts.Free P R ↔ Recurrence.Free H S
    free-iff = (free-there, free_back)

    -- it is valid, by pixels and by the frame, exactly if it is without conflicts in height order.
    pub valid-iff : 1 ≤ P.w → Valid P R ↔ Recurrence.Free H S
    valid-iff pos =
        let k = valid-iff-free P R pos in
        (λ x. free-there (k.0 x), λ x. k.1 (free_back x))

  -- WEIGHTS

  -- Height order lists every position once.
  listed : Lists (λ i. position (suc i)) H.n P.n
  listed = record {
    below = λ i l. A.below (suc i) (record { low = omega arith; high = l });
    once = λ i j l m e.
        let z = A.once (suc i) (suc j) (record { low = omega arith; high = l }) (record { low = omega arith; high = m }) e in
        omega (arith, z);
    each = λ p l. let x = A.each p l in before x.0 x.1 x.2;
  }
    where
      before : {p : ℕ} (i : ℕ) → Point H i → position i ≡ p → (k : ℕ) × (k < H.n) × (position (suc k) ≡ p)
      before zero k e = absurd (omega (arith, k.low))
      before (suc i) k e = (i, k.high, e)

  -- The weight of the inside positions below m is a sum.
  weight-sum : (u : ℕ → ℕ) (R : Choice) (m : ℕ) → weight_below u R m ≡ sum (λ p. cond (R p) (u p) 0) m
  unfolding weight_below sum
  weight-sum u R zero = refl
  weight-sum u R (suc m) = rw (weight-sum u R m)

  -- The weight of the inside points up to m is a sum.
  total-sum : (S : ℕ → Bool) (m : ℕ) → total H S m ≡ sum (λ i. cond (S (suc i)) (H.weight (suc i)) 0) m
  unfolding total sum
  total-sum S zero = refl
  total-sum S (suc m) = rw (total-sum S m)

  -- THE WEIGHT IS THE SAME in height order.
  pub weight-same : (R S : ℕ → Bool) → SameChoice H position R S → weight P v R ≡ total H S H.n
  unfolding weight
  weight-same R S s =
      weight-sum v R P.n
      ∙ (sym (sum-listed (λ p. cond (R p) (v p) 0) (λ i. position (suc i)) H.n P.n listed)
      ∙ (sum_same (λ i. cond (R (position (suc i))) (v (position (suc i))) 0) (λ i. cond (S (suc i)) (H.weight (suc i)) 0) H.n term
      ∙ sym (total-sum S H.n)))
    where
      term : (i : ℕ) → i < H.n → cond (R (position (suc i))) (v (position (suc i))) 0 ≡ cond (S (suc i)) (H.weight (suc i)) 0
      term i l =
          let k : Point H (suc i) = record { low = omega arith; high = l } in
          rw (s.at (suc i) k, A.weight (suc i) k)

  -- CHOICES

  -- A choice of positions is the same as its choice in height order.
  pub from-positions : (R : Choice) → SameChoice H position R (λ i. R (position i))
  from-positions R = record { at = λ i k. refl }

  -- The point at the position of the point i is i.
  height-position : (i : ℕ) → Point H i → height_of H position (position i) ≡ i
  unfolding height_of
  height-position i k =
      let j = greatest at H.n in
      let l : i ≤ j = greatest-most at H.n i k.high ((dec-eq (position i) (position i)).of refl) in
      let pj : Point H j = record { low = omega (arith, k.low); high = greatest-le at H.n } in
      A.once j i pj k ((dec-eq (position j) (position i)).is (greatest-is at H.n pj.low))
    where
      at : ℕ → Bool
      at j = eqb (position j) (position i)

  -- A choice of points in height order is the same as its choice of positions.
  pub to-positions : (S : ℕ → Bool) → SameChoice H position (at_positions H position S) S
  unfolding at_positions
  to-positions S = record { at = λ i k. ap S (height-position i k) }

  -- THE THEOREM

  module _ (L : Sorted H) (permits : Permits P f) where
    -- A label has a width.
    width : 1 ≤ P.w
    width = omega (arith, A.w, L.w-pos)

    -- A valid choice of positions weighs less than the optimum.
    below-optimum : (R : Choice) → Valid P R → weight P v R < optimum H
    below-optimum R ok =
        let S : ℕ → Bool = λ i. R (position i) in
        let s = from-positions R in
        omega (arith, weight-same R S s, upper H L S ((valid-iff permits R S s width).0 ok))

    -- A choice of positions that is the recovered one is valid.
    chosen-valid : 1 ≤ optimum H → (R : Choice) → SameChoice H position R (chosen H) → Valid P R
    chosen-valid y R s = (valid-iff permits R (chosen H) s width).1 (sound H L y)

    -- It weighs one less than the optimum.
    chosen-weighs : 1 ≤ optimum H → (R : Choice) → SameChoice H position R (chosen H) → suc (weight P v R) ≡ optimum H
    chosen-weighs y R s = omega (arith, weight-same R (chosen H) s, exact H L y)

    -- THE BEST OF THE POINTS IS THE OPTIMUM IN HEIGHT ORDER: 0 if no choice is valid, otherwise one more than the greatest weight.
    pub best-optimum : best P v ≡ optimum H
    best-optimum =
        same (optimum H) 0
        (λ z. same (best P v) 0 (λ y. y ∙ sym z)
        (λ ne. let r = best-reached P v width (omega arith) in absurd (omega (arith, below-optimum r.choice r.valid))))
        (λ ne.
        let y : 1 ≤ optimum H = omega arith in
        let R = at_positions H position (chosen H) in
        let s = to-positions (chosen H) in
        best-unique P v (optimum H) width (record { choice = R; valid = chosen-valid y R s; weighs = chosen-weighs y R s }) below-optimum)

    -- THE RECOVERED CHOICE IS A BEST ONE, if there is a valid choice at all.
    pub chosen-best : 1 ≤ optimum H → (R : Choice) → SameChoice H position R (chosen H) → Best P v R × (suc (weight P v R) ≡ best P v)
    chosen-best y R s =
        let e : suc (weight P v R) ≡ best P v = chosen-weighs y R s ∙ sym best-optimum in
        (best-is P v R width (chosen-valid y R s) e, e)
