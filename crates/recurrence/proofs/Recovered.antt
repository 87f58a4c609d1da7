-- A choice that follows the recovery weighs the value of the slab; and what the recovery does down to a cut.
-- Assumes nothing.
use Rattle.std.specs.Prelude.{◌≡◌, refl, Bool, true, false, ◌&&◌, ℕ, zero, suc, ◌≤◌, ◌<◌, ltb, leb}
use Rattle.std.proofs.Common.{sym, ◌∙◌, ap, arith}
use borrow.Author.Tests.{lt-ltb, le-ltb, le-leb, lt-leb, eq-eqb, ne_eqb}
use Rattle.labeling.proofs.Decide.{decide, same, or_left, or-true, or-false, and-false, less}
use Rattle.recurrence.specs.Recurrence.{Heights, Point, Sorted, between, reach, value}
use Rattle.recurrence.specs.Recurrence.{takes_in, recovered, open_weight}
use Rattle.recurrence.proofs.RecurrenceTests.{dec-between, value-zero, value-skip}
use Rattle.recurrence.proofs.RecurrenceTests.{out_of, in-of, recovered-skip, recovered-in}
use Rattle.recurrence.proofs.RecurrenceTests.{recovered-out, open-zero, open-skip, open-out, open_in}
use Rattle.recurrence.proofs.Slabs.{rank_is}
use Rattle.recurrence.proofs.Totals.{ltb_next}
use Rattle.recurrence.proofs.NoBetter.{open-split}
use Rattle.recurrence.specs.Recovered.{Follows, TakesDown, Down}
pub use Rattle.recurrence.proofs.Takes.{takes-in, takes_out}

module _ {H : Heights} (L : Sorted H) {S : ℕ → Bool} {t a b q : ℕ} (tn : t < H.n) (f : Follows H S (suc t) a b q) where
  -- The point of rank t isn't between: S follows the recovery with one rank less.
  pub follow-skip : between a (H.at_rank t) b ≡ false → Follows H S t a b q
  follow-skip e = record {
    does = λ j k. f.does j (record { low = k.low; high = k.high; left = omega (arith, k.left) }) ∙ recovered-skip H t a b q j e;
  }

  module _ (e : between a (H.at_rank t) b ≡ true) where
    -- It is put inside.
    module _ (m : takes_in H t a b q ≡ true) where
      -- S follows the recovery of the others.
      pub follow-in : Follows H S t a b q
      follow-in = record {
        does = λ j k.
            let ne : j ≡ H.at_rank t → ⊥ = λ z. omega (arith, ap H.rank z, L.rank-at_rank t tn, k.left) in
            f.does j (record { low = k.low; high = k.high; left = omega (arith, k.left) })
            ∙ rw (recovered-in H t a b q j e m, ne_eqb j (H.at_rank t) ne);
      }

      -- It is inside in S.
      pub taken_in : S (H.at_rank t) ≡ true
      taken_in =
          let k = (dec-between a (H.at_rank t) b).is e in
          f.does (H.at_rank t) (record { low = k.low; high = k.high; left = omega (arith, L.rank-at_rank t tn) })
          ∙ (recovered-in H t a b q (H.at_rank t) e m ∙ or_left _ _ (eq-eqb (H.at_rank t) (H.at_rank t) refl))

    -- It is left outside.
    module _ (m : takes_in H t a b q ≡ false) where
      -- S follows the recovery of the part below it,
      pub follow-low : Follows H S t a (H.at_rank t) q
      follow-low = record {
        does = λ j k.
            let l = (dec-between a (H.at_rank t) b).is e in
            f.does j (record { low = k.low; high = omega (arith, k.high, l.high); left = omega (arith, k.left) })
            ∙ rw (recovered-out H t a b q j e m, lt-ltb j (H.at_rank t) k.high);
      }

      -- and of the part above it.
      pub follow-high : Follows H S t (H.at_rank t) b (reach H a (H.at_rank t) q)
      follow-high = record {
        does = λ j k.
            let l = (dec-between a (H.at_rank t) b).is e in
            f.does j (record { low = omega (arith, k.low, l.low); high = k.high; left = omega (arith, k.left) })
            ∙ rw (recovered-out H t a b q j e m, le-ltb j (H.at_rank t) (omega (arith, k.low)), lt-ltb (H.at_rank t) j k.low);
      }

      -- It is outside in S.
      pub taken_out : S (H.at_rank t) ≡ false
      taken_out =
          let l = (dec-between a (H.at_rank t) b).is e in
          f.does (H.at_rank t) (record { low = l.low; high = l.high; left = omega (arith, L.rank-at_rank t tn) })
          ∙ rw (recovered-out H t a b q (H.at_rank t) e m, le-ltb (H.at_rank t) (H.at_rank t) (omega arith))

-- THE WEIGHT of such a choice on the open points is the value, less one.
pub weighs : {H : Heights} → Sorted H → (S : ℕ → Bool) (t a b q : ℕ) → t ≤ H.n → 1 ≤ value H t a b q → Follows H S t a b q
    → suc (open_weight H S t a b) ≡ value H t a b q
weighs {H} L S zero a b q l y f = omega (arith, open-zero H S a b, value-zero H a b q)
weighs {H} L S (suc t) a b q l y f =
    let p = H.at_rank t in
    let r = reach H a p q in
    decide (between a p b)
    (λ e. decide (takes_in H t a b q)
    (λ m.
    let g = takes-in y e m in
    let ih = weighs L S t a b q (omega arith) g.0.rest (follow-in L l f e m) in
    omega (arith, ih, open_in H S t a b e (taken_in L l f e m), in-of H t a b q g.0, g.1))
    (λ m.
    let g = takes_out y e m in
    let ih₁ = weighs L S t a p q (omega arith) g.0.low (follow-low L l f e m) in
    let ih₂ = weighs L S t p b r (omega arith) g.0.high (follow-high L l f e m) in
    let o = taken_out L l f e m in
    omega (arith, ih₁, ih₂, open-out H S t a b o, open-split H S t a b p o ((dec-between a p b).is e), out_of H t a b q g.0, g.1)))
    (λ e. omega (
      arith,
      open-skip H S t a b e,
      weighs L S t a b q (omega arith) (omega (arith, value-skip H t a b q e)) (follow-skip L l f e),
      value-skip H t a b q e,
    ))

fewer : {H : Heights} {k u a b q : ℕ} → TakesDown H k (suc u) a b q → TakesDown H k u a b q
fewer f = record { takes = λ t l m. f.takes t l (omega arith) }

-- A slab that has a choice has one with these inside.
pub value-down : {H : Heights} {k a b q : ℕ} (u : ℕ) → k ≤ u → TakesDown H k u a b q → 1 ≤ value H u a b q → 1 ≤ value H k a b q
value-down {H} {k} {a} {b} {q} zero l f y = let z : k ≡ 0 = omega arith in rw z y
value-down {H} {k} {a} {b} {q} (suc u) l f y =
    same k (suc u) (λ z. rw z y)
    (λ ne. value-down u (omega arith) (fewer f)
    (decide (between a (H.at_rank u) b)
    (λ e. (takes-in y e (f.takes u (omega arith) (omega arith) e)).0.rest)
    (λ e. rw (value-skip H u a b q e) at y)))

module _ {H : Heights} (L : Sorted H) (k a b q : ℕ) {i : ℕ} (x : Point H i) where
  -- none,
  down-none : (u : ℕ) → u ≡ k → Down H k u a b q i
  down-none u z =
      let none : (leb k (H.rank i) && ltb (H.rank i) k) ≡ false = less (H.rank i) k
      (λ l. rw (lt-leb k (H.rank i) l))
      (λ l. rw (le-leb k (H.rank i) l, le-ltb (H.rank i) k l)) in
      rw (z, none, and-false (between a i b)) (sym (or-false (recovered H k a b q i)))

  -- or one more.
  down-next : (u : ℕ) → k ≤ u → u < H.n → (between a (H.at_rank u) b ≡ true → takes_in H u a b q ≡ true) → Down H k u a b q i
      → Down H k (suc u) a b q i
  down-next u l m f ih =
      let p = H.at_rank u in
      let r : H.rank p ≡ u = L.rank-at_rank u m in
      same i p
      (λ y. decide (between a p b)
      (λ e.
      recovered-in H u a b q i e (f e)
      ∙ rw (eq-eqb i p y, y, e, le-leb k (H.rank p) (omega arith), lt-ltb (H.rank p) (suc u) (omega arith))
      (sym (or-true (recovered H k a b q p))))
      (λ e. recovered-skip H u a b q i e ∙ (ih ∙ rw (y, e))))
      (λ ne.
      let nr : H.rank i ≡ u → ⊥ = λ y. ne (rank_is L u i x y) in
      rw (ltb_next (H.rank i) u nr)
      (decide (between a p b)
      (λ e. recovered-in H u a b q i e (f e) ∙ (rw (ne_eqb i p ne) ih))
      (λ e. recovered-skip H u a b q i e ∙ ih)))

  pub recovered-down : (u : ℕ) → k ≤ u → u ≤ H.n → TakesDown H k u a b q → Down H k u a b q i
  recovered-down zero l m f = down-none zero (omega arith)
  recovered-down (suc u) l m f =
      same k (suc u) (λ z. down-none (suc u) (sym z))
      (λ ne. down-next u (omega arith) (omega arith) (f.takes u (omega arith) (omega arith))
      (recovered-down u (omega arith) (omega arith) (fewer f)))
