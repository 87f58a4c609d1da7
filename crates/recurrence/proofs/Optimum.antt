-- THE OPTIMUM: the choice that is recovered from the whole slab has no conflicts, it weighs the value, and no choice weighs more.
-- Assumes nothing.
use Rattle.std.specs.Prelude.{◌≡◌, Bool, false, ◌↔◌, ℕ, suc, ◌≤◌, ◌<◌}
use Rattle.std.proofs.Math.Path.{refl}
use Rattle.std.proofs.Common.{sym}
use native.Mathlib.Omega.{arith}
use Rattle.labeling.proofs.Decide.{not-both, same, less}
use Rattle.recurrence.specs.Recurrence.{Heights, Point, Sorted, Free, total}
use Rattle.recurrence.specs.Slabs.{Matches}
use Rattle.recurrence.proofs.Slabs.{overlap-sym, upper-misses}
use Rattle.recurrence.proofs.NoBetter.{no-better}
use Rattle.recurrence.specs.Recovered.{Open, Follows}
use Rattle.recurrence.proofs.Recovered.{weighs}
use Rattle.recurrence.specs.Reached.{Known, is-q, is_right, NoConflicts}
use Rattle.recurrence.proofs.Reached.{clean}
use Rattle.recurrence.proofs.Totals.{open-total}
use Rattle.recurrence.specs.Optimum.{optimum, chosen}

module _ (H : Heights) (L : Sorted H) where
  -- Every choice matches the whole slab.
  whole : (S : ℕ → Bool) → Matches H S H.n 0 (suc H.n) 0
  whole S = record {
    t-le = omega arith;
    ordered = omega arith;
    b-le = omega arith;
    a-out = λ l. absurd (omega arith);
    b-out = λ l. absurd (omega arith);
    a-rank = λ l. absurd (omega arith);
    b-rank = λ l. absurd (omega arith);
    right = λ i l u r. absurd (omega (arith, L.rank_below i (record { low = l; high = omega arith })));
    q-in = λ l. absurd (omega arith);
    q-reaches = λ l. absurd (omega arith);
  }

  -- Every point is open in it.
  open-point : (i : ℕ) → Point H i → Open H H.n 0 (suc H.n) i
  open-point i k = record { low = k.low; high = omega (arith, k.high); left = L.rank_below i k }

  -- No point is known to be inside in it.
  none-known : {X : Type 0} (i : ℕ) → Known H H.n 0 (suc H.n) 0 i → X
  none-known i (is-q l e) = absurd (omega arith)
  none-known i (is_right l u r) = absurd (omega (arith, L.rank_below i (record { low = l; high = omega arith })))

  -- The recovered choice follows the recovery.
  follows : Follows H (chosen H) H.n 0 (suc H.n) 0
  unfolding chosen
  follows = record { does = λ j k. refl }

  -- So no point is in a conflict.
  whole-clean : 1 ≤ optimum H → NoConflicts H (chosen H) H.n 0 (suc H.n) 0
  unfolding optimum
  whole-clean y = clean L H.n 0 (suc H.n) 0 y (whole (chosen H)) (record { apart = λ i k x y. none-known i x }) follows

  -- NO CHOICE WEIGHS MORE: the weight of a choice without conflicts is less than the optimum, which is one more than a weight.
  pub upper : (S : ℕ → Bool) → Free H S → total H S H.n < optimum H
  unfolding optimum
  upper S ok =
      omega (
        arith,
        open-total L S,
        no-better L ok H.n 0 (suc H.n) 0 (whole S) (record { is = λ i e m. absurd (omega (arith, m.high)) }),
      )

  -- THE RECOVERED CHOICE weighs one less than the optimum,
  pub exact : 1 ≤ optimum H → suc (total H (chosen H) H.n) ≡ optimum H
  unfolding optimum
  exact y = omega (arith, open-total L (chosen H), weighs L (chosen H) H.n 0 (suc H.n) 0 (omega arith) y follows)

  -- and has no conflicts.
  pub sound : 1 ≤ optimum H → Free H (chosen H)
  sound y =
      let c = whole-clean y in
      let o = open-point in
      record {
        labels = λ i j pi pj ne e f x.
            less i j (λ l. c.both i j (o i pi) (o j pj) l e f x) (λ l. c.both j i (o j pj) (o i pi) (omega arith) f e (overlap-sym x));
        leaders = λ i j pi pj e f x. same i j (λ z. not-both e (rw z f)) (λ ne. less i j
            (λ l. c.leaders i j (o i pi) e l (omega (arith, pj.high)) pj f x)
            (λ l. upper-misses L i j pi pj (omega arith) x));
        rows = λ i j pi pj ne e f x. less i j
            (λ l. c.rows i j (o i pi) e l (omega (arith, pj.high)) pj f x)
            (λ l. c.rows j i (o j pj) f (omega arith) (omega (arith, pi.high)) pi e (sym x));
        allowed = λ i pi e. c.allowed i (o i pi) e;
      }

  -- The optimum is 0 exactly if there is no choice without conflicts.
  pub none : (optimum H ≡ 0) ↔ ((S : ℕ → Bool) → Free H S → ⊥)
  none = (λ z S ok. omega (arith, upper S ok), λ f. same (optimum H) 0 (λ z. z) (λ ne. absurd (f (chosen H) (sound (omega arith)))))

  -- Where no two points share a row there is one: every point outside.
  pub feasible : ((i j : ℕ) → Point H i → Point H j → H.row i ≡ H.row j → i ≡ j) → 1 ≤ optimum H
  feasible k =
      omega (
        arith,
        upper (λ _. false) (record {
          labels = λ i j pi pj ne e f x. not-both e refl;
          leaders = λ i j pi pj e f x. not-both e refl;
          rows = λ i j pi pj ne e f x. ne (k i j pi pj x);
          allowed = λ i pi e. absurd (not-both e refl);
        }),
      )
