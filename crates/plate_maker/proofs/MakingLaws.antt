-- The promise in its two cases, and with a list of ones. Assumes nothing.
use Rattle.std.specs.Prelude.{◌≡◌, List, ◌++◌, ◌↔◌, ℕ, ◌+◌, ◌≤◌, length, take, drop, Option, None, Some, Result, Ok, Err}
use Rattle.std.proofs.Common.{sym, ap, ◌∙◌, length-append, take_at, ne_eqb, arith}
use Rattle.labeling.specs.Best.{Preferred}
use Rattle.format.specs.declared.refusal.Refusal.{Refusal}
use Rattle.format.specs.Answers.{number}
use Rattle.format.proofs.Answers.{number-not-none}
use Rattle.format.specs.Sheet.{points_of}
use Rattle.format.specs.RankList.{rank_in}
use Rattle.format.specs.Accepted.{Accepted}
use Rattle.format.specs.MakingQuestions.{making_no, workspace_after, output_after}
use Rattle.format.proofs.MakingQuestions.{none-making}
use Rattle.format.specs.Plate.{best_choice_of, best_plate}
use Rattle.format.proofs.BestPlate.{best-preferred}
use Rattle.format.specs.Unranked.{ones}
use Rattle.format.proofs.Unranked.{ones-making, ones-plate}
use Rattle.plate_maker.specs.Making.{make_outcome, make_outcome_of, Making}

-- refused: the output is as it was
pub refused-making : (s : List ℕ) (r : Option (List ℕ)) (o w w' : List ℕ) (x : Refusal) → number x ≡ making_no s r (length o) (length w)
    → w' ≡ workspace_after (making_no s r (length o) (length w)) w → Making s r o w (Err x) o w'
refused-making s r o w w' x e z = record {
  outcome = rw (← e, ne_eqb (number x) 0 (number-not-none x));
  workspace = z;
  output = rw (← e, ne_eqb (number x) 0 (number-not-none x));
}

-- made
pub made-making : (s : List ℕ) (r : Option (List ℕ)) (o w o' w' : List ℕ) (k : ℕ) → making_no s r (length o) (length w) ≡ 0
    → w' ≡ workspace_after (making_no s r (length o) (length w)) w → k ≡ length (best_plate s r)
    → o' ≡ best_plate s r ++ drop (length (best_plate s r)) o → Making s r o w (Ok k) o' w'
made-making s r o w o' w' k first z written output = record { outcome = rw (first, written); workspace = z; output = rw first output }

-- A LIST OF ONES ANSWERS LIKE NONE: one promise says what the other does
pub ones-like-none : (s o w o' w' : List ℕ) (answer : Result ℕ Refusal)
    → Making s (Some (ones s)) o w answer o' w' ↔ Making s None o w answer o' w'
ones-like-none s o w o' w' answer = (
  λ m. record { outcome = m.outcome ∙ outcomes; workspace = m.workspace ∙ workspaces; output = m.output ∙ outputs },
  λ m. record { outcome = m.outcome ∙ sym outcomes; workspace = m.workspace ∙ sym workspaces; output = m.output ∙ sym outputs },
)
  where
    no : making_no s (Some (ones s)) (length o) (length w) ≡ making_no s None (length o) (length w)
    no = ones-making s (length o) (length w)

    outcomes : make_outcome_of s (Some (ones s)) (making_no s (Some (ones s)) (length o) (length w))
        ≡ make_outcome_of s None (making_no s None (length o) (length w))
    outcomes = rw (no, ones-plate s)

    workspaces : workspace_after (making_no s (Some (ones s)) (length o) (length w)) w
        ≡ workspace_after (making_no s None (length o) (length w)) w
    workspaces = rw no

    outputs : output_after (making_no s (Some (ones s)) (length o) (length w)) s (Some (ones s)) o
        ≡ output_after (making_no s None (length o) (length w)) s None o
    outputs = rw (no, ones-plate s)

-- READING THE PROMISE

-- the workspace is by the answer's number
pub making-workspace : {s : List ℕ} {r : Option (List ℕ)} {o w o' w' : List ℕ} {answer : Result ℕ Refusal} → Making s r o w answer o' w'
    → w' ≡ workspace_after (make_outcome answer).no w
making-workspace {w = w} m = m.workspace ∙ ap (λ (k : ℕ). workspace_after k w) (sym (λ i. (m.outcome i).no))

-- refused: the number is the first no's
module _ {s : List ℕ} {r : Option (List ℕ)} {o w o' w' : List ℕ} {x : Refusal} (m : Making s r o w (Err x) o' w') where
  pub refused-no : number x ≡ making_no s r (length o) (length w)
  refused-no = λ i. (m.outcome i).no

  pub refused-some : number x ≡ 0 → ⊥
  refused-some = number-not-none x

-- made: the best plate stands at the start of the output
module _ {s : List ℕ} {r : Option (List ℕ)} {o w o' w' : List ℕ} {k : ℕ} (m : Making s r o w (Ok k) o' w') where
  pub made_none : making_no s r (length o) (length w) ≡ 0
  made_none = sym (λ i. (m.outcome i).no)

  pub made-accepted : Accepted s
  made-accepted = ((none-making s r (length o) (length w)).is made_none).0.0.0

  pub made-preferred : Preferred (points_of s) (rank_in r) (best_choice_of s r)
  made-preferred = best-preferred s (rank_in r) made-accepted ((none-making s r (length o) (length w)).is made_none).1.0

  pub made-output : o' ≡ best_plate s r ++ drop (length (best_plate s r)) o
  made-output = m.output ∙ ap (λ (n : ℕ). output_after n s r o) made_none

  made-length : length (best_plate s r) ≡ k
  made-length = sym ((λ i. (m.outcome i).written) ∙ ap (λ (n : ℕ). (make_outcome_of s r n).written) made_none)

  pub made-start : take k o' ≡ best_plate s r
  made-start = ap (take k) made-output ∙ take_at (best_plate s r) (drop (length (best_plate s r)) o) k made-length

  within : k ≤ length o'
  within =
      let p : List ℕ = best_plate s r in
      let l : length p ≡ k = made-length in
      let e : length o' ≡ length p + length (drop (length p) o) = ap length made-output ∙ length-append p (drop (length p) o) in
      omega arith

pub made-within : {s : List ℕ} {r : Option (List ℕ)} {o w o' w' : List ℕ} {answer : Result ℕ Refusal} {k : ℕ}
    → Making s r o w answer o' w' → answer ≡ Ok k → k ≤ length o'
made-within m e = within (rw e at m)
