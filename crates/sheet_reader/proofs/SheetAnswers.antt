-- Reading the contract of check_sheet: an answer and its outcome. Assumes nothing.
use Rattle.std.specs.Prelude.{◌≡◌, refl, ℕ, Result, Ok, Err}
use Rattle.std.proofs.Common.{sym, ap, ◌∙◌, true≢false}
use Rattle.format.specs.declared.refusal.Refusal.{Refusal}
use Rattle.format.specs.Answers.{number, refusal_of, outcome, outcome_of}
use Rattle.format.proofs.Answers.{refusal-number}

-- an outcome fixes the answer, constructor and refusal
pub sheet-outcome-fixes : (a b : Result (Unit {0}) Refusal) → outcome a ≡ outcome b → a ≡ b
sheet-outcome-fixes (Ok x) (Ok y) e = refl
sheet-outcome-fixes (Ok x) (Err k) e = absurd (true≢false (λ i. (sym e i).refused))
sheet-outcome-fixes (Err k) (Ok x) e = absurd (true≢false (λ i. (e i).refused))
sheet-outcome-fixes (Err k) (Err m) e =
    let n : number k ≡ number m = λ i. (e i).no in
    ap Err (sym (refusal-number k) ∙ ap refusal_of n ∙ refusal-number m)

-- Where m is the sheet's first no

pub accepted-none : (a : Result (Unit {0}) Refusal) (m : ℕ) → outcome a ≡ outcome_of m → a ≡ Ok (tt {0}) → m ≡ 0
accepted-none a m e q = sym (λ i. ((ap outcome (sym q) ∙ e) i).no)

pub refused-no : (a : Result (Unit {0}) Refusal) (k : Refusal) (m : ℕ) → outcome a ≡ outcome_of m → a ≡ Err k
    → (number k ≡ m) × (m ≡ 0 → ⊥)
refused-no a k m e q =
    let b : Result (Unit {0}) Refusal = Err k in
    let f : outcome b ≡ outcome_of m = ap outcome (sym q) ∙ e in
    (λ i. (f i).no, λ z. true≢false (λ i. ((f ∙ ap outcome_of z) i).refused))
