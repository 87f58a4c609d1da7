-- The best over the choices that go on from one: no valid choice exceeds it, and one has its weight. Assumes nothing.
use Rattle.std.specs.Prelude.{◌≡◌, refl, Bool, true, false, ℕ, zero, suc, ◌+◌, ◌≤◌, ◌<◌, leb}
use Rattle.std.proofs.Common.{sym, ◌∙◌, leb-true, leb-false, eq-eqb, ne_eqb, arith}
use Rattle.labeling.specs.Points.{Points, Choice}
use Rattle.labeling.specs.Marks.{Valid}
use Rattle.labeling.specs.Conflicts.{valid_b}
use Rattle.labeling.proofs.Decide.{decide, same}
use Rattle.labeling.proofs.Pixels.{dec-valid}
use Rattle.labeling.specs.Best.{weight, Agree, put, best_from, best_choice_from, best}
use Rattle.labeling.proofs.Agree.{valid-agree, weight-agree}
use Rattle.labeling.specs.Greatest.{UpTo}

pub put-at : (S : Choice) (k : ℕ) (b : Bool) → put S k b k ≡ b
unfolding put
put-at S k b = rw (eq-eqb k k refl)

pub put-off : (S : Choice) (k i : ℕ) (b : Bool) → (i ≡ k → ⊥) → put S k b i ≡ S i
unfolding put
put-off S k i b ne = rw (ne_eqb i k ne)

pub up-to-put : (k : ℕ) (R S : Choice) (b : Bool) → R k ≡ b → UpTo k R S → UpTo (suc k) R (put S k b)
up-to-put k R S b e f i l = same i k
    (λ q. rw (q, put-at S k b) e)
    (λ ne. f i (omega arith) ∙ sym (put-off S k i b ne))

pub most-from : (P : Points) (v : ℕ → ℕ) (m k : ℕ) (S R : Choice) → 1 ≤ P.w → k + m ≡ P.n → Valid P R → UpTo k R S
    → weight P v R < best_from P v m k S
unfolding best_from
most-from P v zero k S R pos n ok f =
    let a : Agree P R S = record { at = λ i l. f i (omega arith) } in
    let e : valid_b P S ≡ true = (dec-valid P S pos).of (valid-agree P R S a ok) in
    rw (e, weight-agree P v R S a) (omega arith)
most-from P v (suc m) k S R pos n ok f =
    decide (R k)
    (λ e. let ih = most-from P v m (suc k) (put S k true) R pos (omega arith) ok (up-to-put k R S true e f) in omega arith)
    (λ e. let ih = most-from P v m (suc k) (put S k false) R pos (omega arith) ok (up-to-put k R S false e f) in omega arith)

-- best_choice_from is valid and has the weight that best_from says
pub chosen-from : (P : Points) (v : ℕ → ℕ) (m k : ℕ) (S : Choice) → 1 ≤ P.w → 1 ≤ best_from P v m k S
    → Valid P (best_choice_from P v m k S) × (suc (weight P v (best_choice_from P v m k S)) ≡ best_from P v m k S)
unfolding best_from best_choice_from
chosen-from P v zero k S pos l =
    decide (valid_b P S)
    (λ e. ((dec-valid P S pos).is e, rw e))
    (λ e. let z : 1 ≤ 0 = rw e at l in absurd (omega arith))
chosen-from P v (suc m) k S pos l =
    decide (leb y x)
    (λ e.
    let a : y ≤ x = leb-true y x e in
    let r = chosen-from P v m (suc k) (put S k true) pos (omega arith) in
    rw e (r.0, r.1 ∙ omega arith))
    (λ e.
    let a : x < y = leb-false y x e in
    let r = chosen-from P v m (suc k) (put S k false) pos (omega arith) in
    rw e (r.0, r.1 ∙ omega arith))
  where
    x : ℕ
    x = best_from P v m (suc k) (put S k true)

    y : ℕ
    y = best_from P v m (suc k) (put S k false)

-- NO VALID CHOICE EXCEEDS IT
pub best-most : (P : Points) (v : ℕ → ℕ) (R : Choice) → 1 ≤ P.w → Valid P R → weight P v R < best P v
unfolding best
best-most P v R pos ok = most-from P v P.n 0 (λ i. false) R pos (omega arith) ok (λ i l. absurd (omega arith))
