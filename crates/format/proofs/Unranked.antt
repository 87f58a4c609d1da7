-- "Without a list every rank is 1 and all earlier answers hold" (document 02 (e)); and a lent list of ones is like none. Assumes nothing.
use Rattle.std.specs.Prelude.{◌≡◌, refl, List, eqb, None, Some}
use Rattle.std.proofs.Common.{sym, eqb-true}
use Rattle.std.proofs.Math.Path.{ap}
use Prim.Native.Nat.{ℕ, suc, ◌+◌, ◌<◌}
use Rattle.std.proofs.Math.ListN.{length, length-replicate}
use Rattle.std.proofs.lemmas.List.{get_or-replicate}
use native.Mathlib.Omega.{arith}
use Rattle.labeling.specs.Best.{one_each, best_sum, best_count}
use Rattle.labeling.proofs.SameWeights.{best-sum-same, best-choice-same}
use Rattle.labeling.proofs.Decide.{decide}
use Rattle.format.specs.Sheet.{point_count, points_of, then_no, sheet_no}
use Rattle.format.specs.RankList.{rank_in, ranks_no}
use Rattle.format.proofs.BestPlate.{best-preferred}
use Rattle.format.specs.RightRanks.{RightRanks}
use Rattle.format.proofs.RightRanks.{none-ranks}
use Rattle.format.specs.Plate.{plate_of, best_plate}
use Rattle.format.specs.MakingQuestions.{workspace_no, room_no, asked_no, output_fits, choice_no, choosing_no, making_no}
use Rattle.format.specs.MakingQuestions.{load_asked_no, load_no}
use Rattle.format.specs.Unranked.{WithoutList, ones}

then-none : (k : ℕ) → then_no k 0 ≡ k
then-none k = decide (eqb k 0) (λ e. rw e (sym (eqb-true k 0 e))) (λ e. rw e)

pub without-list : (s : List ℕ) → WithoutList s
unfolding making_no choosing_no asked_no load_asked_no load_no ranks_no best_plate rank_in best_count
without-list s = record {
  making = λ room cells. ap (λ k. then_no k (choice_no s)) (then-none (room_no s (output_fits s room) cells));
  loading = λ cells. ap (λ k. then_no k (choice_no s)) (then-none (then_no (sheet_no s) (workspace_no cells)));
  plate = refl;
  best = refl;
  preferred = best-preferred s one_each;
}

module _ (s : List ℕ) where
  pub rank-one : (i : ℕ) → i < point_count s → rank_in (Some (ones s)) i ≡ rank_in None i
  unfolding rank_in
  rank-one i l = let e : 1 + i ≡ suc i = omega arith in rw e (get_or-replicate {A = ℕ} (point_count s) i 1 0 l)

  ones-right : RightRanks (point_count s) (Some (ones s))
  unfolding RightRanks rank_in
  ones-right =
      let long : length (ones s) ≡ 1 + point_count s = omega (arith, length-replicate {A = ℕ} (point_count s) 1) in
      ((omega arith, (refl, long)), (λ i l. (let e = rank-one i l in (omega arith, omega arith)), tt))

  no_number : ranks_no (point_count s) (Some (ones s)) ≡ ranks_no (point_count s) None
  unfolding ranks_no
  no_number = (none-ranks (point_count s) (Some (ones s))).of ones-right

  -- the numbers are those without a list,
  pub ones-making : (room cells : ℕ) → making_no s (Some (ones s)) room cells ≡ making_no s None room cells
  unfolding making_no choosing_no asked_no
  ones-making room cells = rw no_number

  pub ones-load : (cells : ℕ) → load_no s (Some (ones s)) cells ≡ load_no s None cells
  unfolding load_no load_asked_no
  ones-load cells = rw no_number

  -- and so are the plate and the best
  pub ones-plate : best_plate s (Some (ones s)) ≡ best_plate s None
  unfolding best_plate
  ones-plate = ap (plate_of s) (best-choice-same (points_of s) (rank_in (Some (ones s))) (rank_in None) rank-one)

  pub ones-best : best_sum (points_of s) (rank_in (Some (ones s))) ≡ best_sum (points_of s) (rank_in None)
  ones-best = best-sum-same (points_of s) (rank_in (Some (ones s))) (rank_in None) rank-one
