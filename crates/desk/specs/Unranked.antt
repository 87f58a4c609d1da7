-- "Without a list every rank is 1 and all earlier answers hold" (document 02 (e)), at the desk: sums are counts. proofs/Unranked.antt shows
-- it, and that a load with a list of ones is one without a list. Assumes nothing.
use Rattle.std.specs.Prelude.{◌≡◌, false, List, ℕ, ◌+◌, ◌-◌, ◌≤◌, None, Some}
use Rattle.labeling.specs.Marks.{Valid}
use Rattle.labeling.specs.Best.{best_count}
use Rattle.format.specs.Sheet.{points_of}
use Rattle.mark_questions.specs.MarkQuestions.{list_count}
use Rattle.desk.specs.Desk.{mark_of, mark_outcome, VerdictOutcome, valid_outcome}
use Rattle.desk.specs.Calls.{Calls, desk_after, last_number, MarkedAfter}
use Rattle.desk.specs.Calls.{choice_of_list, ValidList, PlateMade, section_read}

-- The clauses of a right verdict that speak of counts, as document 01 has them. The others have no ranks in them.
pub record VerdictByCount (s l : List ℕ) (v : VerdictOutcome) : Type 0 where
  pub valid : Valid (points_of s) (choice_of_list l) → v ≡ valid_outcome (list_count l) (best_count (points_of s) - list_count l)
  pub at_most : Valid (points_of s) (choice_of_list l) → list_count l ≤ best_count (points_of s)

-- "a valid list of S whose count no valid list of S exceeds, and that count is the best count of S"
pub record BestByCount (s l : List ℕ) : Type 0 where
  pub valid : ValidList s l
  pub greatest : (other : List ℕ) → ValidList s other → list_count other ≤ list_count l
  pub best : list_count l ≡ best_count (points_of s)

-- "all earlier answers hold", at every point of a sequence whose last accepted load was lent no list, that of the sheet s
pub record ByCount (calls : Calls) (s : List ℕ) : Type 0 where
  pub mark : (l : List ℕ) → MarkedAfter calls l
      → (v : VerdictOutcome)
      × (mark_outcome (mark_of (desk_after calls) l).answer
      ≡ record { refused = false; no = 0; number = Some (last_number calls + 1); verdict = Some v })
      × VerdictByCount s l v
  pub plates : (p : List ℕ) → PlateMade s None p → BestByCount s (section_read p)
