-- An outcome of reading a plate fixes the answer. Assumes nothing.
use Rattle.std.specs.Prelude.{◌≡◌, ℕ, Result, Ok, Err}
use Rattle.std.proofs.Common.{sym, ap, ◌∙◌, true≢false}
use Rattle.format.specs.declared.refusal.Refusal.{Refusal}
use Rattle.format.specs.Answers.{refusal_of}
use Rattle.format.proofs.Answers.{refusal-number}
use Rattle.plate_reader.specs.PlateAnswers.{plate_outcome}

-- an outcome fixes the answer, constructor and value
pub plate-outcome-fixes : (a b : Result ℕ Refusal) → plate_outcome a ≡ plate_outcome b → a ≡ b
plate-outcome-fixes (Ok i) (Ok j) e = λ d. Ok (e d).inside
plate-outcome-fixes (Ok i) (Err r) e = absurd (true≢false (λ d. (sym e d).refused))
plate-outcome-fixes (Err r) (Ok i) e = absurd (true≢false (λ d. (e d).refused))
plate-outcome-fixes (Err r) (Err q) e =
    let same : r ≡ q = sym (refusal-number r) ∙ ap refusal_of (λ d. (e d).no) ∙ refusal-number q in
    ap Err same
