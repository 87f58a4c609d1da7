-- Facts about the entries of a list, for the proofs of this crate. Assumes nothing.
use Rattle.std.specs.Prelude.{◌≡◌, List, ℕ, zero, suc, ◌<◌}
use Rattle.std.proofs.Common.{◌∙◌, eq-eqb, ne_eqb, arith}
use Rattle.labeling.proofs.Decide.{same}
use Rattle.format.specs.declared.refusal.Refusal.{Refusal}
use Rattle.format.specs.Answers.{number}
use Rattle.format.proofs.Answers.{number-not-none}
use Rattle.mark_questions.specs.MarkQuestions.{entry_no, entries_no}

-- the first entry with a no decides
pub entries_first : (n : ℕ) (p : List ℕ) (m k : ℕ) (r : Refusal) → entries_no n p m ≡ 0 → m < k → number r ≡ entry_no n p m → number r ≡ entries_no n p k
unfolding entries_no
entries_first n p m zero r e l q = absurd (omega arith)
entries_first n p m (suc k) r e l q =
    same m k
    (λ i. rw (← i, eq-eqb (entries_no n p m) 0 e) q)
    (λ no.
    let ih = entries_first n p m k r e (omega arith) q in
    rw (ne_eqb (entries_no n p k) 0 (λ z. number-not-none r (ih ∙ z))) ih)
