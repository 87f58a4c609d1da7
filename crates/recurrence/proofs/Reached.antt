-- A choice that follows the recovery has no conflicts.
-- Assumes nothing.
use Rattle.std.specs.Prelude.{◌≡◌, refl, Bool, true, false, ℕ, zero, suc, ◌+◌, ◌≤◌, ◌<◌}
use Rattle.std.proofs.Common.{sym, ◌∙◌, ap, arith}
use Rattle.labeling.proofs.Decide.{not-both, decide, same, less}
use Rattle.recurrence.specs.Recurrence.{Heights, Point, Sorted, Overlap, Hits, between, reach, value, takes_in}
use Rattle.recurrence.specs.RecurrenceTests.{Between, Reaches, Reached, newer, older, nobody}
use Rattle.recurrence.proofs.RecurrenceTests.{dec-between, reach-is, reach-newer}
use Rattle.recurrence.specs.RecurrenceTests.{MayBeInside}
use Rattle.recurrence.proofs.RecurrenceTests.{reach-older, dec-may-be-inside, dec-rows-differ, value-skip}
use Rattle.recurrence.proofs.Slabs.{overlap-sym, rank_is, right_of, right-misses, ends-below, overlap-reaches}
use Rattle.recurrence.specs.Slabs.{Matches}
use Rattle.recurrence.proofs.Slabs.{two-overlap, inner, match-same, match_low, match-high, reach-reaches}
use Rattle.recurrence.specs.Recovered.{Open, Follows}
use Rattle.recurrence.proofs.Recovered.{follow-skip, follow-in, taken_in}
use Rattle.recurrence.proofs.Recovered.{follow-low, follow-high, taken_out, takes-in, takes_out}
use Rattle.recurrence.specs.Reached.{Known, is-q, is_right, Apart, NoConflicts}

-- A point known to be inside stays so with a smaller t.
known_more : {H : Heights} {t a b q i : ℕ} → Known H (suc t) a b q i → Known H t a b q i
known_more (is-q l e) = is-q l e
known_more (is_right l u r) = is_right l u (omega arith)

module _ {H : Heights} (L : Sorted H) {S : ℕ → Bool} {t a b q : ℕ} (s : Matches H S (suc t) a b q) (d : Apart H (suc t) a b q) where
  -- The point of rank t is a point.
  pp : Point H (H.at_rank t)
  pp = L.at_rank-point t s.t-le

  -- It has rank t.
  rp : H.rank (H.at_rank t) ≡ t
  rp = L.rank-at_rank t s.t-le

  -- An open point is that of rank t, or open for t.
  open-or : {X : Type 0} (j : ℕ) → Open H (suc t) a b j → (j ≡ H.at_rank t → X) → (Open H t a b j → X) → X
  open-or j k f g =
      same (H.rank j) t
      (λ z. f (rank_is L t j (inner s j k.low k.high) z))
      (λ ne. g (record { low = k.low; high = k.high; left = omega (arith, k.left) }))

  -- THE POINT OF RANK t ISN'T BETWEEN

  module _ (nb : Between a (H.at_rank t) b → ⊥) where
    -- No point more is known to be inside.
    skip-known : (i : ℕ) → Known H t a b q i → Known H (suc t) a b q i
    skip-known i (is-q l e) = is-q l e
    skip-known i (is_right l u r) =
        let ne : H.rank i ≡ t → ⊥ =
        λ z. let e : i ≡ H.at_rank t = rank_is L t i (inner s i l u) z in nb (record { low = omega arith; high = omega arith }) in
        is_right l u (omega arith)

    -- So those that are known don't overlap.
    skip-apart : Apart H t a b q
    skip-apart = record { apart = λ i k x y. d.apart i k (skip-known i x) (skip-known k y) }

    -- No point more was open.
    skip-open : (j : ℕ) → Open H (suc t) a b j → Open H t a b j
    skip-open j k = open-or j k (λ e. absurd (nb (record { low = omega (arith, k.low); high = omega (arith, k.high) }))) (λ z. z)

    -- So there are no conflicts, if there are none with one rank less.
    skip-clean : NoConflicts H S t a b q → NoConflicts H S (suc t) a b q
    skip-clean c = record {
      known = λ j k x e y. c.known j k (skip-open j x) e (known_more y);
      both = λ j k x y. c.both j k (skip-open j x) (skip-open k y);
      leaders = λ j k x. c.leaders j k (skip-open j x);
      rows = λ j k x. c.rows j k (skip-open j x);
      allowed = λ j x. c.allowed j (skip-open j x);
    }

  -- THE POINT OF RANK t IS INSIDE

  module _ (k : Between a (H.at_rank t) b) (e : S (H.at_rank t) ≡ true) (g : MayBeInside H t a b q) where
    -- It overlaps no point known to be inside.
    in-point : (i : ℕ) → Known H (suc t) a b q i → Overlap H (H.at_rank t) i → ⊥
    in-point i (is-q l z) o = g.label l (rw z at o)
    in-point i (is_right l u r) o = g.others i (inner s i l u) l u r o

    -- A point known to be inside now is it, or was known.
    in-or : {X : Type 0} (i : ℕ) → Known H t a b q i → (i ≡ H.at_rank t → X) → (Known H (suc t) a b q i → X) → X
    in-or i (is-q l z) f h = h (is-q l z)
    in-or i (is_right l u r) f h = same (H.rank i) t (λ z. f (rank_is L t i (inner s i l u) z)) (λ ne. h (is_right l u (omega arith)))

    -- So those that are known now don't overlap.
    in-apart : Apart H t a b q
    in-apart = record {
      apart = λ i j x y ne o. in-or i x
          (λ i=p. in-or j y (λ j=p. ne (i=p ∙ sym j=p)) (λ y'. in-point j y' (rw i=p at o)))
          (λ x'. in-or j y (λ j=p. in-point i x' (overlap-sym (rw j=p at o))) (λ y'. d.apart i j x' y' ne o));
    }

    -- It is known now.
    in-known : Known H t a b q (H.at_rank t)
    in-known = is_right k.low k.high (omega (arith, rp))

    -- Its label reaches the leader of no outside point from there to b.
    in-leaders : (i : ℕ) → H.at_rank t < i → i ≤ b → Point H i → S i ≡ false → Hits H (H.at_rank t) i → ⊥
    in-leaders i l u pi v o =
        less i b
        (λ z. less (H.rank i) t
        (λ y. right-misses L (H.at_rank t) i pp pi l (omega (arith, rp)) o)
        (λ y.
        let ne : H.rank i ≡ t → ⊥ = λ n. omega (arith, rank_is L t i pi n) in
        not-both (s.right i (omega (arith, k.low)) z (omega arith)) v))
        (λ z.
        let i=b : i ≡ b = omega arith in
        omega (arith, g.top (omega (arith, pi.high)), o.to, ap H.row i=b))

    -- So there are no conflicts, if there are none among the others.
    in_clean : NoConflicts H S t a b q → NoConflicts H S (suc t) a b q
    in_clean c = record {
      known = λ j i x z y o. open-or j x (λ j=p. in-point i y (rw j=p at o)) (λ x'. c.known j i x' z (known_more y) o);
      both = λ j i x y l z v o. open-or j x
          (λ j=p. open-or i y (λ i=p. omega arith) (λ y'. c.known i (H.at_rank t) y' v in-known (overlap-sym (rw j=p at o))))
          (λ x'. open-or i y (λ i=p. c.known j (H.at_rank t) x' z in-known (rw i=p at o)) (λ y'. c.both j i x' y' l z v o));
      leaders = λ j i x z l u pi v o.
          open-or j x (λ j=p. in-leaders i (rw j=p at l) u pi v (rw j=p at o)) (λ x'. c.leaders j i x' z l u pi v o);
      rows = λ j i x z l u pi v o. open-or j x (λ j=p. not-both e (rw (← j=p) z)) (λ x'. c.rows j i x' z l u pi v o);
      allowed = λ j x z. open-or j x (λ j=p. rw j=p g.allowed) (λ x'. c.allowed j x' z);
    }

  -- THE POINT OF RANK t IS OUTSIDE

  module _ (k : Between a (H.at_rank t) b) (e : S (H.at_rank t) ≡ false) (c : b ≤ H.n → H.row (H.at_rank t) ≡ H.row b → ⊥) where
    -- A point known to be inside in the part below was known.
    low-known : (i : ℕ) → Known H t a (H.at_rank t) q i → Known H (suc t) a b q i
    low-known i (is-q l z) = is-q l z
    low-known i (is_right l u r) =
        let v : i < b = omega (arith, k.high) in
        let ne : H.rank i ≡ t → ⊥ = λ n. omega (arith, rank_is L t i (inner s i l v) n) in
        is_right l v (omega arith)

    -- So those that are known in the part below don't overlap.
    low-apart : Apart H t a (H.at_rank t) q
    low-apart = record { apart = λ i j x y. d.apart i j (low-known i x) (low-known j y) }

    -- What `reach` gives was known.
    reach-known : (r : ℕ) → Reached H a (H.at_rank t) q r → 1 ≤ r → Known H (suc t) a b q r
    reach-known r (newer m l) z =
        let u : r < b = omega (arith, m.high, k.high) in
        is_right l u (right_of L t r s.t-le (inner s r l u) m.right)
    reach-known r (older m n) z = is-q m.low n
    reach-known r (nobody n) z = absurd (omega arith)

    -- A point known to be inside in the part above was known.
    high-known : (i : ℕ) → Known H t (H.at_rank t) b (reach H a (H.at_rank t) q) i → Known H (suc t) a b q i
    high-known i (is-q l z) = rw z (reach-known (reach H a (H.at_rank t) q) (reach-is H a (H.at_rank t) q) l)
    high-known i (is_right l u r) =
        let v : a < i = omega (arith, k.low) in
        let ne : H.rank i ≡ t → ⊥ = λ n. omega (arith, rank_is L t i (inner s i v u) n) in
        is_right v u (omega arith)

    -- So those that are known in the part above don't overlap.
    high-apart : Apart H t (H.at_rank t) b (reach H a (H.at_rank t) q)
    high-apart = record { apart = λ i j x y. d.apart i j (high-known i x) (high-known j y) }

    -- A point known to be inside that reaches over it is what `reach` gives.
    kept : (i : ℕ) → Known H (suc t) a b q i → Reaches H (H.at_rank t) i → 1 ≤ reach H a (H.at_rank t) q → i ≡ reach H a (H.at_rank t) q
    kept i x m z =
        let p = H.at_rank t in
        let r = reach H a p q in
        same i r (λ y. y)
        (λ ne. absurd (d.apart i r x (reach-known r (reach-is H a p q) z) ne
        (two-overlap L p i r pp m (reach-reaches L s r (reach-is H a p q) z))))

    module _ (lo : NoConflicts H S t a (H.at_rank t) q) (hi : NoConflicts H S t (H.at_rank t) b (reach H a (H.at_rank t) q)) where
      -- An open inside point below it ends below its row.
      low-ends : (j : ℕ) → Open H t a (H.at_rank t) j → S j ≡ true → H.row j + H.h ≤ H.row (H.at_rank t)
      low-ends j x z =
          let p = H.at_rank t in
          ends-below L j p (inner s j x.low (omega (arith, x.high, k.high))) pp x.high
          (omega (arith, x.left, rp)) (lo.leaders j p x z x.high (omega arith) pp e)

      -- So it overlaps no point above.
      low-misses : (j i : ℕ) → Open H t a (H.at_rank t) j → S j ≡ true → Point H i → H.at_rank t < i → Overlap H j i → ⊥
      low-misses j i x z pi l o = omega (arith, low-ends j x z, o.above, L.rows (H.at_rank t) i pp pi l)

      -- An open point other than it is open in one of the parts.
      place : {X : Type 0} (j : ℕ) → Open H t a b j → (Open H t a (H.at_rank t) j → X) → (Open H t (H.at_rank t) b j → X) → X
      place j x f g =
          less j (H.at_rank t)
          (λ y. f (record { low = x.low; high = y; left = x.left }))
          (λ y.
          let ne : j ≡ H.at_rank t → ⊥ = λ n. omega (arith, ap H.rank n, rp, x.left) in
          g (record { low = omega arith; high = x.high; left = x.left }))

      -- An open inside point is open in one of the parts.
      place_in : {X : Type 0} (j : ℕ)
          → Open H (suc t) a b j → S j ≡ true → (Open H t a (H.at_rank t) j → X) → (Open H t (H.at_rank t) b j → X) → X
      place_in j x z f g = open-or j x (λ j=p. absurd (not-both z (rw j=p e))) (λ x'. place j x' f g)

      -- An open inside point above it overlaps no point known to be inside.
      high-fixed : (j i : ℕ) → Open H t (H.at_rank t) b j → S j ≡ true → Known H (suc t) a b q i → Overlap H j i → ⊥
      high-fixed j i x z (is-q l n) o =
          let p = H.at_rank t in
          let pj = inner s j (omega (arith, x.low, k.low)) x.high in
          let m = s.q-reaches l in
          let pa : Point H a = record { low = omega (arith, m.low, m.high); high = omega (arith, k.low, pp.high) } in
          let pq : Point H q = record { low = l; high = omega (arith, m.high, pa.high) } in
          let cp = L.columns p a pp pa (omega (arith, rp, s.a-rank pa.low)) in
          let rq : t < H.rank q = right_of L t q s.t-le pq (omega (arith, m.right)) in
          let o' : Overlap H j q = rw n at o in
          let mq =
          overlap-reaches L q p j pq pp pj (omega (arith, m.high, k.low)) x.low (omega (arith, rp)) (omega (arith, x.left, rp)) o' in
          let w = reach-older H a p q mq in
          hi.known j q x z (is-q w (kept q (is-q l refl) mq w)) o'
      high-fixed j i x z (is_right l u r) o =
          let p = H.at_rank t in
          let pj = inner s j (omega (arith, x.low, k.low)) x.high in
          let pi = inner s i l u in
          less i p
          (λ y.
          let mi = overlap-reaches L i p j pi pp pj y x.low (omega (arith, rp)) (omega (arith, x.left, rp)) o in
          let w = reach-newer H a p q i mi l in
          hi.known j i x z (is-q w (kept i (is_right l u r) mi w)) o)
          (λ y.
          let ne : i ≡ p → ⊥ = λ n. omega (arith, ap H.rank n, rp) in
          hi.known j i x z (is_right (omega arith) u (omega arith)) o)

      -- An open inside point below it overlaps none either.
      low-fixed : (j i : ℕ) → Open H t a (H.at_rank t) j → S j ≡ true → Known H (suc t) a b q i → Overlap H j i → ⊥
      low-fixed j i x z (is-q l n) o = lo.known j i x z (is-q l n) o
      low-fixed j i x z (is_right l u r) o =
          less i (H.at_rank t)
          (λ y. lo.known j i x z (is_right l y (omega arith)) o)
          (λ y.
          let ne : i ≡ H.at_rank t → ⊥ = λ n. omega (arith, ap H.rank n, rp) in
          low-misses j i x z (inner s i l u) (omega arith) o)

      -- It shares its row with no outside point above it.
      alone : (i : ℕ) → H.at_rank t < i → i ≤ b → Point H i → S i ≡ false → H.row (H.at_rank t) ≡ H.row i → ⊥
      alone i l u pi v o =
          less i b
          (λ z. not-both (s.right i (omega (arith, k.low)) z (right_of L t i s.t-le pi (L.beside (H.at_rank t) i pp pi l o))) v)
          (λ z.
          let i=b : i ≡ b = omega arith in
          c (omega (arith, pi.high)) (o ∙ ap H.row i=b))

      -- An open outside point below it shares its row with none either.
      low_rows : (j i : ℕ) → Open H t a (H.at_rank t) j → S j ≡ false → j < i → Point H i → S i ≡ false → H.row j ≡ H.row i → ⊥
      low_rows j i x z l pi v o =
          less (H.at_rank t) i
          (λ n.
          let r₁ = L.rows j (H.at_rank t) (inner s j x.low (omega (arith, x.high, k.high))) pp x.high in
          let r₂ = L.rows (H.at_rank t) i pp pi n in
          lo.rows j (H.at_rank t) x z x.high (omega arith) pp e (omega (arith, o)))
          (λ n. lo.rows j i x z l n pi v o)

      -- So there are no conflicts, if there are none in the two parts.
      out-clean : NoConflicts H S (suc t) a b q
      out-clean = record {
        known = λ j i x z y o. place_in j x z (λ x'. low-fixed j i x' z y o) (λ x'. high-fixed j i x' z y o);
        both = λ j i x y l z v o. place_in j x z
            (λ x'. place_in i y v (λ y'. lo.both j i x' y' l z v o) (λ y'. low-misses j i x' z (inner s i y.low y.high) y'.low o))
            (λ x'. place_in i y v (λ y'. omega (arith, x'.low, y'.high)) (λ y'. hi.both j i x' y' l z v o));
        leaders = λ j i x z l u pi v o. place_in j x z
            (λ x'. less (H.at_rank t) i
            (λ y. omega (arith, low-ends j x' z, o.to, L.rows (H.at_rank t) i pp pi y))
            (λ y. lo.leaders j i x' z l y pi v o))
            (λ x'. hi.leaders j i x' z l u pi v o);
        rows = λ j i x z l u pi v o. open-or j x
            (λ j=p. alone i (rw j=p at l) u pi v (rw j=p at o))
            (λ x'. place j x' (λ x''. low_rows j i x'' z l pi v o) (λ x''. hi.rows j i x'' z l u pi v o));
        allowed = λ j x z. place_in j x z (λ x'. lo.allowed j x' z) (λ x'. hi.allowed j x' z);
      }

-- A CHOICE THAT FOLLOWS THE RECOVERY HAS NO CONFLICTS.
pub clean : {H : Heights} → Sorted H → {S : ℕ → Bool} (t a b q : ℕ) → 1 ≤ value H t a b q → Matches H S t a b q
    → Apart H t a b q → Follows H S t a b q → NoConflicts H S t a b q
clean {H} L {S} zero a b q y s d f = record {
  known = λ j i x. absurd (omega (arith, x.left));
  both = λ j i x. absurd (omega (arith, x.left));
  leaders = λ j i x. absurd (omega (arith, x.left));
  rows = λ j i x. absurd (omega (arith, x.left));
  allowed = λ j x. absurd (omega (arith, x.left));
}
clean {H} L {S} (suc t) a b q y s d f =
    let p = H.at_rank t in
    let tn = s.t-le in
    decide (between a p b)
    (λ e.
    let k = (dec-between a p b).is e in
    decide (takes_in H t a b q)
    (λ m.
    let z = taken_in L tn f e m in
    let n = (takes-in y e m).0 in
    let g = (dec-may-be-inside H t a b q).is n.may-be-inside in
    in_clean L s d k z g (clean L t a b q n.rest (match-same L s (λ _. z)) (in-apart L s d k z g) (follow-in L tn f e m)))
    (λ m.
    let z = taken_out L tn f e m in
    let n = (takes_out y e m).0 in
    let c = (dec-rows-differ H p b).is n.differ in
    out-clean L s d k z c
    (clean L t a p q n.low (match_low L s k z) (low-apart L s d k z c) (follow-low L tn f e m))
    (clean L t p b (reach H a p q) n.high (match-high L s k z) (high-apart L s d k z c) (follow-high L tn f e m))))
    (λ e.
    let nb : Between a p b → ⊥ = λ k. not-both ((dec-between a p b).of k) e in
    skip-clean L s d nb
    (clean L t a b q (omega (arith, value-skip H t a b q e)) (match-same L s (λ k. absurd (nb k)))
    (skip-apart L s d nb) (follow-skip L tn f e)))
