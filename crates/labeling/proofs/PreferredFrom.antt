-- What best_choice_from does with the positions that are decided, and with the next one. Assumes nothing.
use Rattle.std.specs.Prelude.{◌≡◌, refl, true, false, ℕ, zero, suc, ◌+◌, ◌≤◌, ◌<◌, leb, ltb}
use Rattle.std.proofs.Common.{sym, ◌∙◌, leb-true, leb-false, ltb-true, ltb-false, arith}
use Rattle.labeling.specs.Points.{Points, Choice}
use Rattle.labeling.specs.Marks.{Valid}
use Rattle.labeling.proofs.Decide.{not-both, decide, same}
use Rattle.labeling.specs.Best.{weight, put, best_from, best_choice_from}
use Rattle.labeling.specs.Greatest.{UpTo}
use Rattle.labeling.proofs.GreatestFrom.{put-at, put-off, up-to-put, most-from}

-- the positions below k stay
pub from-kept : (P : Points) (v : ℕ → ℕ) (m k : ℕ) (S : Choice) → UpTo k (best_choice_from P v m k S) S
unfolding best_choice_from
from-kept P v zero k S i l = refl
from-kept P v (suc m) k S i l =
    decide (leb (best_from P v m (suc k) (put S k false)) (best_from P v m (suc k) (put S k true)))
    (λ e. rw e (from-kept P v m (suc k) (put S k true) i (omega arith) ∙ put-off S k i true (λ z. omega arith)))
    (λ e. rw e (from-kept P v m (suc k) (put S k false) i (omega arith) ∙ put-off S k i false (λ z. omega arith)))

-- where it agrees with a best choice so far, and that one has the next point inside, so has it
pub from_first : (P : Points) (v : ℕ → ℕ) (m k : ℕ) (S R : Choice) → 1 ≤ P.w → k + m ≡ P.n → Valid P R → UpTo k R S
    → best_from P v m k S ≤ suc (weight P v R) → (i : ℕ) → i < P.n → UpTo i (best_choice_from P v m k S) R → R i ≡ true
    → best_choice_from P v m k S i ≡ true
unfolding best_from best_choice_from
from_first P v zero k S R pos n ok f w i l a t = sym (f i (omega arith)) ∙ t
from_first P v (suc m) k S R pos n ok f w i l a t =
    decide (leb y x)
    (λ e.
    let c : y ≤ x = leb-true y x e in
    let a' : UpTo i (best_choice_from P v m (suc k) (put S k true)) R = λ j u. (rw e at (a j u)) in
    let at-k : best_choice_from P v m (suc k) (put S k true) k ≡ true =
    from-kept P v m (suc k) (put S k true) k (omega arith) ∙ put-at S k true in
    rw e (decide (R k)
    (λ q. from_first P v m (suc k) (put S k true) R pos (omega arith) ok (up-to-put k R S true q f) (omega arith) i l a' t)
    (λ q. decide (ltb k i)
    (λ z. absurd (not-both (sym (a' k (ltb-true k i z)) ∙ at-k) q))
    (λ z. let g : i ≤ k = ltb-false k i z in same i k (λ r. absurd (not-both t (rw r q)))
    (λ ne. from-kept P v m (suc k) (put S k true) i (omega arith) ∙ put-off S k i true ne ∙ sym (f i (omega arith)) ∙ t)))))
    (λ e.
    let c : x < y = leb-false y x e in
    let a' : UpTo i (best_choice_from P v m (suc k) (put S k false)) R = λ j u. (rw e at (a j u)) in
    rw e (decide (R k)
    (λ q.
    let z = most-from P v m (suc k) (put S k true) R pos (omega arith) ok (up-to-put k R S true q f) in absurd (omega arith))
    (λ q. from_first P v m (suc k) (put S k false) R pos (omega arith) ok (up-to-put k R S false q f) (omega arith) i l a' t)))
  where
    x : ℕ
    x = best_from P v m (suc k) (put S k true)

    y : ℕ
    y = best_from P v m (suc k) (put S k false)
