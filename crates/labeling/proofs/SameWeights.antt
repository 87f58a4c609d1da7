-- Weights matter on the sheet's positions alone: where two weightings agree there, the best and the preferred choice are the same. Assumes
-- nothing.
use Rattle.std.specs.Prelude.{◌≡◌, true, false}
use Rattle.std.proofs.Math.Path.{refl}
use Prim.Native.Nat.{ℕ, zero, suc, ◌<◌}
use Rattle.std.proofs.Common.{arith}
use Rattle.labeling.specs.Points.{Points, Choice}
use Rattle.labeling.specs.Best.{weight_below, weight, put, best_from, best, best_sum, best_choice_from, best_choice}

weight_below-same : (v u : ℕ → ℕ) (S : Choice) (m : ℕ) → ((i : ℕ) → i < m → v i ≡ u i) → weight_below v S m ≡ weight_below u S m
unfolding weight_below
weight_below-same v u S zero a = refl
weight_below-same v u S (suc m) a =
    let ih : weight_below v S m ≡ weight_below u S m = weight_below-same v u S m (λ i l. a i (omega arith)) in
    let e : v m ≡ u m = a m (omega arith) in
    rw (e, ih)

module _ (P : Points) (v u : ℕ → ℕ) (a : (i : ℕ) → i < P.n → v i ≡ u i) where
  from-same : (m k : ℕ) (S : Choice) → best_from P v m k S ≡ best_from P u m k S
  unfolding best_from weight
  from-same zero k S = let e : weight_below v S P.n ≡ weight_below u S P.n = weight_below-same v u S P.n a in rw e
  from-same (suc m) k S = rw (from-same m (suc k) (put S k true), from-same m (suc k) (put S k false))

  choice-from-same : (m k : ℕ) (S : Choice) → best_choice_from P v m k S ≡ best_choice_from P u m k S
  unfolding best_choice_from
  choice-from-same zero k S = refl
  choice-from-same (suc m) k S =
      rw (
        from-same m (suc k) (put S k false),
        from-same m (suc k) (put S k true),
        choice-from-same m (suc k) (put S k true),
        choice-from-same m (suc k) (put S k false),
      )

  best-same : best P v ≡ best P u
  unfolding best
  best-same = from-same P.n 0 (λ i. false)

  pub best-sum-same : best_sum P v ≡ best_sum P u
  unfolding best_sum
  best-sum-same = rw best-same

  pub best-choice-same : best_choice P v ≡ best_choice P u
  unfolding best_choice
  best-choice-same = choice-from-same P.n 0 (λ i. false)
