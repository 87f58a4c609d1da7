-- The best choice of a sheet that has a valid one is the preferred one, with any ranks, and its plate that of every preferred choice.
-- Assumes nothing.
use Rattle.std.specs.Prelude.{◌≡◌, List, ℕ, Option}
use Rattle.labeling.specs.Points.{Choice}
use Rattle.labeling.specs.Best.{weight, best_sum, best_choice, Agree, Preferred, Feasible}
use Rattle.labeling.proofs.Greatest.{feasible-best, best-sums}
use Rattle.labeling.proofs.Preferred.{preferred-once, best_choice-preferred}
use Rattle.format.specs.Sheet.{points_of}
use Rattle.format.specs.RankList.{rank_in}
use Rattle.format.specs.Plate.{plate_of, best_choice_of, best_plate}
use Rattle.format.specs.Accepted.{Accepted}
use Rattle.format.proofs.PlateAgree.{plate-agree}

-- "The optimum is shown for ranks in general" (document 02 (e)): position i has the rank `rank i`, any number.
module _ (s : List ℕ) (rank : ℕ → ℕ) (a : Accepted s) (f : Feasible (points_of s)) where
  -- IT IS PREFERRED
  pub best-preferred : Preferred (points_of s) rank (best_choice (points_of s) rank)
  best-preferred =
      let pos = a.proper.label-width.0 in best_choice-preferred (points_of s) rank pos (feasible-best (points_of s) rank pos f)

  pub best-chosen-sums : weight (points_of s) rank (best_choice (points_of s) rank) ≡ best_sum (points_of s) rank
  best-chosen-sums = best-sums (points_of s) rank (best_choice (points_of s) rank) a.proper.label-width.0 best-preferred.best

  -- and every preferred choice agrees with it,
  pub preferred-agrees : (S : Choice) → Preferred (points_of s) rank S → Agree (points_of s) S (best_choice (points_of s) rank)
  preferred-agrees S p = preferred-once (points_of s) rank S (best_choice (points_of s) rank) p best-preferred

-- SO ITS PLATE IS THE BEST PLATE
pub preferred-plate : (s : List ℕ) (r : Option (List ℕ)) → Accepted s → Feasible (points_of s) → (S : Choice)
    → Preferred (points_of s) (rank_in r) S → plate_of s S ≡ best_plate s r
unfolding best_plate
preferred-plate s r a f S p = plate-agree s S (best_choice_of s r) (preferred-agrees s (rank_in r) a f S p)
