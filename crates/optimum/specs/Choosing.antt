-- What best_choice answers and leaves. Assumes nothing.
use Rattle.std.specs.Prelude.{◌≡◌, ℕ, Bool, List, length, Option, Result}
use Rattle.labeling.specs.Points.{Choice, outside}
use Rattle.labeling.specs.Best.{best_choice}
use Rattle.format.specs.Sheet.{point_count, points_of}
use Rattle.format.specs.Plate.{inside_below}
use Rattle.format.specs.RankList.{rank_in}
use Rattle.format.specs.Padded.{padded}
use Rattle.format.specs.Answers.{answered}
use Rattle.format.specs.declared.refusal.Refusal.{Refusal}
use Rattle.format.specs.MakingQuestions.{choosing_no, workspace_after}
use Rattle.optimum.specs.declared.BestChoice.{BestChoice}
use Rattle.optimum.specs.declared.lists.Positions.{Positions}

-- The positions of a list, which has 32 at most: a byte for each, and 0 past them.
abbrev pub listed : List ℕ → Positions
listed l = record { cells = padded 32 l; count = length l }

-- The two lists of a choice, each in 32 cells: "one byte for each inside position, ascending", and the outside points "from the highest row
-- down".
abbrev pub split_of : List ℕ → Choice → BestChoice
split_of s S = record { inside = listed (inside_below S (point_count s)); outside = listed (outside (points_of s) S) }

-- What is chosen of s, where position i has the rank `rank i` and the number of the first no is k: the lists of the best choice, or none.
abbrev pub chosen_of : List ℕ → (ℕ → ℕ) → ℕ → Result BestChoice Refusal
chosen_of s rank k = answered k (split_of s (best_choice (points_of s) rank))

-- THE PROMISE of best_choice, on any sheet s, any rank list l or none, any answer `fits` to 21 and any workspace w: what it answers, and
-- the workspace afterwards.
pub record Choosing (s : List ℕ) (l : Option (List ℕ)) (fits : Bool) (w : List ℕ) (r : Result BestChoice Refusal) (w' : List ℕ) : Type 0 where
  pub answer : r ≡ chosen_of s (rank_in l) (choosing_no s l fits (length w))
  pub workspace : w' ≡ workspace_after (choosing_no s l fits (length w)) w
