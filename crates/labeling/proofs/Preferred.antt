-- The preferred choice: there is only one, and it is best_choice. For weights in general. Assumes nothing.
use Rattle.std.specs.Prelude.{◌≡◌, refl, Bool, true, false, ℕ, zero, suc, ◌≤◌, ◌<◌}
use Rattle.std.proofs.Common.{sym, arith}
use Rattle.labeling.specs.Points.{Points, Choice}
use Rattle.labeling.proofs.Decide.{not-both, same}
use Rattle.labeling.specs.Best.{Agree, Preferred, best, best_choice}
use Rattle.labeling.proofs.Greatest.{best_choice-best, best_of}
use Rattle.labeling.proofs.PreferredFrom.{from_first}

-- of two choices that differ at a position, one has it inside
pub other-inside : (a b : Bool) → (a ≡ b → ⊥) → (b ≡ true → a ≡ true) → a ≡ true
other-inside a true ne f = f refl
other-inside true false ne f = refl
other-inside false false ne f = absurd (ne refl)

-- THERE IS ONLY ONE, on the sheet's positions
pub preferred-once : (P : Points) (v : ℕ → ℕ) (S R : Choice) → Preferred P v S → Preferred P v R → Agree P S R
preferred-once P v S R s r = record { at = λ i l. below (suc i) l i (omega arith) }
  where
    -- where each is inside that differs from the other, they don't differ
    equal : (a b : Bool) → ((a ≡ b → ⊥) → a ≡ true) → ((b ≡ a → ⊥) → b ≡ true) → a ≡ b
    equal true true f g = refl
    equal false false f g = refl
    equal true false f g = sym (g (λ e. not-both e refl))
    equal false true f g = f (λ e. not-both e refl)

    below : (m : ℕ) → m ≤ P.n → (i : ℕ) → i < m → S i ≡ R i
    below zero u i l = absurd (omega arith)
    below (suc m) u i l =
        let ih = below m (omega arith) in
        same i m
        (λ e. rw e (equal (S m) (R m)
        (λ d. s.first R r.best m u (record { before = ih; differ = d }))
        (λ d. r.first S s.best m u (record { before = λ j k. sym (ih j k); differ = d }))))
        (λ ne. ih i (omega arith))

-- IT IS best_choice
pub best_choice-preferred : (P : Points) (v : ℕ → ℕ) → 1 ≤ P.w → 1 ≤ best P v → Preferred P v (best_choice P v)
unfolding best best_choice
best_choice-preferred P v pos l = record {
  best = best_choice-best P v pos l;
  first = λ R b i k d. other-inside (best_choice P v i) (R i) d.differ
      (from_first P v P.n 0 (λ i. false) R pos (omega arith) b.valid (λ i u. absurd (omega arith))
      (omega (arith, best_of P v R pos b)) i k d.before);
}
