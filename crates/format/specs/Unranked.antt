-- "Without a list every rank is 1 and all earlier answers hold" (document 02 (e)); and a list of ones. proofs/Unranked.antt shows that a
-- lent list of ones is like none. Assumes nothing.
use Rattle.std.specs.Prelude.{◌≡◌, List, ◌∷◌, replicate, None}
use Prim.Native.Nat.{ℕ}
use Rattle.labeling.specs.Best.{one_each, best_sum, best_count, best_choice, Preferred, Feasible}
use Rattle.format.specs.Sheet.{point_count, points_of, then_no, sheet_no}
use Rattle.format.specs.RankList.{rank_in}
use Rattle.format.specs.Accepted.{Accepted}
use Rattle.format.specs.Plate.{plate_of, best_plate}
use Rattle.format.specs.MakingQuestions.{workspace_no, room_no, output_fits, choice_no, making_no}
use Rattle.format.specs.MakingQuestions.{load_no}

-- WITHOUT A LIST: the number of a making and of a load is that of the questions of document 01 and document 02 (c), the plate that of the
-- preferred choice by count, and the best sum the best count.
pub record WithoutList (s : List ℕ) : Type 0 where
  pub making : (room cells : ℕ) → making_no s None room cells ≡ then_no (room_no s (output_fits s room) cells) (choice_no s)
  pub loading : (cells : ℕ) → load_no s None cells ≡ then_no (then_no (sheet_no s) (workspace_no cells)) (choice_no s)
  pub plate : best_plate s None ≡ plate_of s (best_choice (points_of s) one_each)
  pub best : best_sum (points_of s) (rank_in None) ≡ best_count (points_of s)
  -- "the unranked case following from it"
  pub preferred : Accepted s → Feasible (points_of s) → Preferred (points_of s) one_each (best_choice (points_of s) one_each)

-- A LIST OF ONES beside the sheet s

abbrev pub ones : List ℕ → List ℕ
ones s = point_count s ∷ replicate (point_count s) 1
