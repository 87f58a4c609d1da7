-- What making answers, writes and leaves: the plate maker's promise (document 01, "Questions in their order" and "Agreement", and document
-- 02 (c) to (e)). Assumes nothing.
use Rattle.std.specs.Prelude.{◌≡◌, Bool, true, false, cond, not, List, ℕ, eqb, length, Option, Result, Ok, Err}
use Rattle.format.specs.declared.refusal.Refusal.{Refusal}
use Rattle.format.specs.Answers.{number}
use Rattle.format.specs.MakingQuestions.{making_no, workspace_after, output_after}
use Rattle.format.specs.Plate.{best_plate}

-- What an answer of making says: whether it is refused, the number of the first no (0 where nothing is refused), and the written length.
pub record MakeOutcome : Type 0 where
  pub refused : Bool
  pub no : ℕ
  pub written : ℕ

-- The cases of a making's answer: "The first no ends the call with its number and a written length of 0".
abbrev pub make_outcome : Result ℕ Refusal → MakeOutcome
make_outcome (Ok written) = record { refused = false; no = 0; written = written }
make_outcome (Err r) = record { refused = true; no = number r; written = 0 }

-- The outcome of making a plate of s with the rank list r, if one is lent, where the first no is k.
abbrev pub make_outcome_of : List ℕ → Option (List ℕ) → ℕ → MakeOutcome
make_outcome_of s r k = record { refused = not (eqb k 0); no = k; written = cond (eqb k 0) (length (best_plate s r)) 0 }

-- THE PROMISE of make, where r is none, of make_ranked, where it is the list, and of make_with, where it is the list if one is lent, on any
-- sheet s, list, output o and workspace w: the answer, and what output and workspace hold afterwards.
pub record Making (s : List ℕ) (r : Option (List ℕ)) (o w : List ℕ) (answer : Result ℕ Refusal) (o' w' : List ℕ) : Type 0 where
  pub outcome : make_outcome answer ≡ make_outcome_of s r (making_no s r (length o) (length w))
  pub workspace : w' ≡ workspace_after (making_no s r (length o) (length w)) w
  pub output : o' ≡ output_after (making_no s r (length o) (length w)) s r o
