-- No choice without conflicts weighs more than the value of a slab that it matches.
-- Assumes nothing.
use Rattle.std.specs.Prelude.{◌≡◌, Bool, true, false, ℕ, zero, suc, ◌+◌, ◌≤◌, ◌<◌}
use Rattle.std.proofs.Common.{ap, arith}
use Rattle.labeling.proofs.Decide.{not-both, decide, same, less, dec-false}
use Rattle.recurrence.specs.Recurrence.{Heights, Point, Sorted, Free, between, reach, value, open_weight}
use Rattle.recurrence.specs.RecurrenceTests.{Between, Reaches, MayBeInside}
use Rattle.recurrence.proofs.RecurrenceTests.{dec-between, reach-is, reach-newer, reach-older}
use Rattle.recurrence.specs.RecurrenceTests.{CanOut, CanIn}
use Rattle.recurrence.proofs.RecurrenceTests.{dec-may-be-inside, dec-rows-differ, value-zero, value-skip}
use Rattle.recurrence.proofs.RecurrenceTests.{value-step, out_of, in-of, open-zero, open-skip, open-out, open_in}
use Rattle.recurrence.specs.Slabs.{Matches}
use Rattle.recurrence.proofs.Slabs.{two-overlap, reaches-lower, ends-below}
use Rattle.recurrence.proofs.Slabs.{match-same, match_low, match-high, reach-in, reach-reaches}
use Rattle.recurrence.specs.NoBetter.{Only}

-- An outside point between a and b splits the weight of the open points.
pub open-split : (H : Heights) (S : ℕ → Bool) (t a b p : ℕ) → S p ≡ false → Between a p b
    → open_weight H S t a b ≡ open_weight H S t a p + open_weight H S t p b
open-split H S zero a b p e k = omega (arith, open-zero H S a b, open-zero H S a p, open-zero H S p b)
open-split H S (suc t) a b p e k =
    let ih = open-split H S t a b p e k in
    let x = H.at_rank t in
    decide (S x)
    (λ z. decide (between a x b)
    (λ y. let y' = (dec-between a x b).is y in less x p
    (λ l. omega (
      arith,
      ih,
      open_in H S t a b y z,
      open_in H S t a p ((dec-between a x p).of (record { low = y'.low; high = l })) z,
      open-skip H S t p b (dec-false (dec-between p x b) (λ m. omega (arith, m.low))),
    ))
    (λ l.
    let ne : x ≡ p → ⊥ = λ m. not-both z (rw m e) in
    omega (
      arith,
      ih,
      open_in H S t a b y z,
      open_in H S t p b ((dec-between p x b).of (record { low = omega arith; high = y'.high })) z,
      open-skip H S t a p (dec-false (dec-between a x p) (λ m. omega (arith, m.high))),
    )))
    (λ y.
    let n₁ : Between a x p → ⊥ =
    λ m. not-both ((dec-between a x b).of (record { low = m.low; high = omega (arith, m.high, k.high) })) y in
    let n₂ : Between p x b → ⊥ = λ m. not-both ((dec-between a x b).of (record { low = omega (arith, m.low, k.low); high = m.high })) y in
    omega (
      arith,
      ih,
      open-skip H S t a b y,
      open-skip H S t a p (dec-false (dec-between a x p) n₁),
      open-skip H S t p b (dec-false (dec-between p x b) n₂),
    )))
    (λ z. omega (arith, ih, open-out H S t a b z, open-out H S t a p z, open-out H S t p b z))

module _ {H : Heights} (L : Sorted H) {S : ℕ → Bool} (ok : Free H S) where
  -- Two inside points whose labels reach over p are one.
  two-one : (p i k : ℕ) → Point H p → Reaches H p i → Reaches H p k → S i ≡ true → S k ≡ true → i ≡ k
  two-one p i k pp m n e f =
      same i k (λ z. z)
      (λ ne. absurd (ok.labels i k
      (record { low = m.low; high = omega (arith, m.high, pp.high) })
      (record { low = n.low; high = omega (arith, n.high, pp.high) })
      ne e f (two-overlap L p i k pp m n)))

  module _ {t a b q : ℕ} (s : Matches H S (suc t) a b q) (only : Only H S a q) (k : Between a (H.at_rank t) b) where
    -- The part above an outside point has its only point too.
    only_high : Only H S (H.at_rank t) (reach H a (H.at_rank t) q)
    only_high = record {
      is = λ i f m.
          let p = H.at_rank t in
          let r = reach H a p q in
          let pp = L.at_rank-point t s.t-le in
          let go : 1 ≤ r → i ≡ r =
          λ z. two-one p i r pp m (reach-reaches L s r (reach-is H a p q) z) f (reach-in L s k r (reach-is H a p q) z) in
          less a i (λ l. go (reach-newer H a p q i m l))
          (λ l.
          let low : 1 ≤ i = m.low in
          let out : S a ≡ false = s.a-out (omega arith) in
          let ne : i ≡ a → ⊥ = λ z. not-both f (rw z out) in
          let pa : Point H a = record { low = omega arith; high = omega (arith, k.low, pp.high) } in
          let pi : Point H i = record { low = low; high = omega (arith, pa.high) } in
          let e : i ≡ q =
          only.is i f (reaches-lower L i a p pa pp (omega arith) k.low
          (omega (arith, s.a-rank pa.low, L.rank-at_rank t s.t-le)) m (ok.leaders i a pi pa f out)) in
          go (reach-older H a p q (rw e at m)));
    }

    -- A point that the choice has inside passes the test.
    may-be-in : S (H.at_rank t) ≡ true → MayBeInside H t a b q
    may-be-in e =
        let p = H.at_rank t in
        let pp = L.at_rank-point t s.t-le in
        let rp = L.rank-at_rank t s.t-le in
        record {
          allowed = ok.allowed p pp e;
          top = λ l.
              let pb : Point H b = record { low = omega (arith, k.high); high = l } in
              ends-below L p b pp pb k.high (omega (arith, s.b-rank l)) (ok.leaders p b pp pb e (s.b-out l));
          label = λ l o.
              let m = s.q-reaches l in
              ok.labels p q pp (record { low = l; high = omega (arith, m.high, s.ordered, s.b-le) })
              (λ z. omega (arith, m.high, k.low)) e (s.q-in l) o;
          others = λ j pj l u r o. ok.labels p j pp pj (λ z. omega (arith, ap H.rank z)) e (s.right j l u r) o;
        }

  -- NO CHOICE BEATS THE VALUE.
  pub no-better : (t a b q : ℕ) → Matches H S t a b q → Only H S a q → open_weight H S t a b < value H t a b q
  no-better zero a b q s only = omega (arith, open-zero H S a b, value-zero H a b q)
  no-better (suc t) a b q s only =
      let p = H.at_rank t in
      let r = reach H a p q in
      decide (between a p b)
      (λ z.
      let k = (dec-between a p b).is z in
      decide (S p)
      (λ e.
      let ih = no-better t a b q (match-same L s (λ _. e)) only in
      let c : CanIn H t a b q = record { may-be-inside = (dec-may-be-inside H t a b q).of (may-be-in s only k e); rest = omega arith } in
      omega (arith, open_in H S t a b z e, value-step H t a b q z, in-of H t a b q c, ih))
      (λ e.
      let ih₁ = no-better t a p q (match_low L s k e) only in
      let ih₂ = no-better t p b r (match-high L s k e) (only_high s only k) in
      let pp = L.at_rank-point t s.t-le in
      let c : CanOut H t a b q = record {
        differ =
            (dec-rows-differ H p b).of
            (λ l. ok.rows p b pp (record { low = omega (arith, k.high); high = l }) (λ n. omega (arith, k.high)) e (s.b-out l));
        low = omega arith;
        high = omega arith;
      } in
      omega (arith, open-out H S t a b e, open-split H S t a b p e k, value-step H t a b q z, out_of H t a b q c, ih₁, ih₂)))
      (λ z.
      let ih = no-better t a b q (match-same L s (λ k. absurd (not-both ((dec-between a p b).of k) z))) only in
      omega (arith, open-skip H S t a b z, value-skip H t a b q z, ih))
