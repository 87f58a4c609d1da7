-- What a making and a load without a no have, and what a call leaves in the workspace. Assumes nothing.
use Rattle.std.specs.Prelude.{◌≡◌, Bool, true, List, ℕ, ◌+◌, ◌*◌, ◌≤◌, length, replicate, Option}
use Rattle.std.proofs.Common.{ne_eqb, arith}
use Rattle.labeling.specs.Best.{Feasible}
use Rattle.labeling.proofs.Greatest.{dec-feasible}
use Rattle.labeling.proofs.Decide.{dec-le, dec-true}
use Rattle.format.specs.Sizes.{workspace_cells}
use Rattle.format.specs.Sheet.{point_count, points_of}
use Rattle.format.specs.Accepted.{Accepted, NoneOf}
use Rattle.format.proofs.Accepted.{none-ask, none_left, none-sheet}
use Rattle.format.proofs.Asking.{none_after, none_then}
use Rattle.format.specs.RightRanks.{RightRanks}
use Rattle.format.proofs.RightRanks.{none-ranks}
use Rattle.format.specs.MakingQuestions.{workspace_no, room_no, asked_no, choice_no, choosing_no, making_no, load_asked_no, load_no, workspace_after}

-- WHERE NONE IS ANSWERED NO: the sheet is accepted, both buffers are large enough, the rank list is right, and some choice is valid

-- 22
pub none-workspace : (cells : ℕ) → NoneOf (workspace_no cells) ((workspace_cells ≤ cells) × Unit {0})
none-workspace cells = none-ask 22 (omega arith) (dec-le _ _) none_left

-- 21 by its answer
none-room : (s : List ℕ) (fits : Bool) (cells : ℕ)
    → NoneOf (room_no s fits cells) (Accepted s × ((fits ≡ true) × ((workspace_cells ≤ cells) × Unit {0})))
unfolding room_no
none-room s fits cells = none_then (none-sheet s) (none-ask 21 (omega arith) (dec-true fits) (none-workspace cells))

-- 62 and 63
pub none-asked : (s : List ℕ) (r : Option (List ℕ)) (fits : Bool) (cells : ℕ) → NoneOf (asked_no s r fits cells)
    ((Accepted s × ((fits ≡ true) × ((workspace_cells ≤ cells) × Unit {0}))) × RightRanks (point_count s) r)
unfolding asked_no
none-asked s r fits cells = none_then (none-room s fits cells) (none-ranks (point_count s) r)

-- 61
pub none-choice : (s : List ℕ) → Accepted s → NoneOf (choice_no s) (Feasible (points_of s) × Unit {0})
none-choice s a = none-ask 61 (omega arith) (dec-feasible (points_of s) a.proper.label-width.0) none_left

-- all of a making's, 21 by the bytes of the output
pub none-making : (s : List ℕ) (r : Option (List ℕ)) (room cells : ℕ)
    → NoneOf (making_no s r room cells)
    (((Accepted s × ((12 + 8 * point_count s ≤ room) × ((workspace_cells ≤ cells) × Unit {0}))) × RightRanks (point_count s) r)
    × (Feasible (points_of s) × Unit {0}))
unfolding making_no choosing_no asked_no room_no
none-making s r room cells =
    none_after
    (none_then (none_then (none-sheet s) (none-ask 21 (omega arith) (dec-le _ _) (none-workspace cells))) (none-ranks (point_count s) r))
    (λ a. none-choice s a.0.0)

-- a load's before 61
pub none-load-asked : (s : List ℕ) (r : Option (List ℕ)) (cells : ℕ)
    → NoneOf (load_asked_no s r cells) ((Accepted s × ((workspace_cells ≤ cells) × Unit {0})) × RightRanks (point_count s) r)
unfolding load_asked_no
none-load-asked s r cells = none_then (none_then (none-sheet s) (none-workspace cells)) (none-ranks (point_count s) r)

-- all of a load's
pub none-load : (s : List ℕ) (r : Option (List ℕ)) (cells : ℕ) → NoneOf (load_no s r cells)
    (((Accepted s × ((workspace_cells ≤ cells) × Unit {0})) × RightRanks (point_count s) r) × (Feasible (points_of s) × Unit {0}))
unfolding load_no
none-load s r cells = none_after (none-load-asked s r cells) (λ a. none-choice s a.0.0)

-- WHAT THE WORKSPACE IS AFTERWARDS

module _ (k : ℕ) (w : List ℕ) where
  pub zeroed-0 : k ≡ 0 → workspace_after k w ≡ replicate (length w) 0
  zeroed-0 e = rw e

  pub zeroed-61 : k ≡ 61 → workspace_after k w ≡ replicate (length w) 0
  zeroed-61 e = rw e

  pub untouched : (k ≡ 0 → ⊥) → (k ≡ 61 → ⊥) → workspace_after k w ≡ w
  untouched a b = rw (ne_eqb k 0 a, ne_eqb k 61 b)
