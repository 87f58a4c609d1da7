-- The theorems on the definitions of specs/Choosing.antt. Assumes nothing.
use Rattle.std.specs.Prelude.{◌≡◌, ℕ, Bool, List, length, Option, Result, Ok, IfOk, ◌==◌, refl}
use Rattle.labeling.proofs.Decide.{decide}
use Rattle.labeling.specs.Best.{best_choice}
use Rattle.format.specs.Sheet.{points_of}
use Rattle.format.specs.RankList.{rank_in}
use Rattle.format.specs.MakingQuestions.{choosing_no}
use Rattle.format.specs.Answers.{IsNumber, refusal_of, no_of}
use Rattle.format.specs.declared.refusal.Refusal.{Refusal}
use Rattle.format.proofs.Answers.{number-not-none, choosing-number, number-answered}
use Rattle.optimum.specs.declared.BestChoice.{BestChoice}
use Rattle.optimum.specs.Choosing.{split_of, chosen_of, Choosing}

-- READING AN ANSWER: its number is that of the first no, and where there is none, the lists are those of the best choice

module _ (s : List ℕ) (rank : ℕ → ℕ) (k : ℕ) (r : Result BestChoice Refusal) (e : r ≡ chosen_of s rank k) where
  pub chosen_of-no : IsNumber k → no_of r ≡ k
  chosen_of-no n = rw e (number-answered k (split_of s (best_choice (points_of s) rank)) n)

  pub chosen_of-split : no_of r ≡ 0 → r ≡ Ok (split_of s (best_choice (points_of s) rank))
  chosen_of-split z =
      decide (k == 0)
      (λ t. rw (e, t) refl)
      (λ t. absurd (number-not-none (refusal_of k) (rw (e, t) at z)))

-- of the call, whose first no always has a refusal's number
module _ {s : List ℕ} {l : Option (List ℕ)} {fits : Bool} {w : List ℕ} {r : Result BestChoice Refusal} {w' : List ℕ}
    (c : Choosing s l fits w r w') where
  pub chosen-no : no_of r ≡ choosing_no s l fits (length w)
  chosen-no = chosen_of-no s (rank_in l) (choosing_no s l fits (length w)) r c.answer (choosing-number s l fits (length w))

  pub chosen-split : IfOk r (λ x. x ≡ split_of s (best_choice (points_of s) (rank_in l)))
  chosen-split =
      decide (choosing_no s l fits (length w) == 0) (λ t. rw (c.answer, t) refl) (λ t. rw (c.answer, t) tt)
