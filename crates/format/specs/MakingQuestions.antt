-- The questions of making and loading, and what a call leaves in the workspace and in the output (document 01, "Questions in their order",
-- and document 02 (c) to (e)), where r is the rank list, if one is lent. Assumes nothing.
use Rattle.std.specs.Prelude.{Bool, cond, ◌||◌, List, ◌++◌, ℕ, ◌+◌, ◌*◌, leb, eqb, length, drop, replicate, Option}
use Rattle.labeling.specs.Best.{feasible_b}
use Rattle.format.specs.Sizes.{workspace_cells}
use Rattle.format.specs.Sheet.{ask, then_no, point_count, points_of, sheet_no}
use Rattle.format.specs.RankList.{ranks_no}
use Rattle.format.specs.Plate.{best_plate}

-- "Is the workspace at least 32,768 numbers of 16 bits? 22."
abbrev pub workspace_no : ℕ → ℕ
workspace_no cells = ask (leb workspace_cells cells) 22 0

-- The sheet's questions, then 21, which `fits` answers, then 22: the workspace has `cells` numbers.
unfoldable pub room_no : List ℕ → Bool → ℕ → ℕ
room_no s fits cells = then_no (sheet_no s) (ask fits 21 (workspace_no cells))

-- These, and then the rank list's: "both after 22 and before 61" (document 02 (e)).
unfoldable pub asked_no : List ℕ → Option (List ℕ) → Bool → ℕ → ℕ
asked_no s r fits cells = then_no (room_no s fits cells) (ranks_no (point_count s) r)

-- "Has the output at least 12 + 8n bytes? 21.": an output of `room` bytes has.
abbrev pub output_fits : List ℕ → ℕ → Bool
output_fits s room = leb (12 + 8 * point_count s) room

-- "61, after 22 in making and loading, exactly if no choice of the sheet is valid" (document 02 (c)).
abbrev pub choice_no : List ℕ → ℕ
choice_no s = ask (feasible_b (points_of s)) 61 0

-- The questions of asked_no, and then 61: 0 if there is no no.
unfoldable pub choosing_no : List ℕ → Option (List ℕ) → Bool → ℕ → ℕ
choosing_no s r fits cells = then_no (asked_no s r fits cells) (choice_no s)

-- The first no of a making, 0 if there is none.
unfoldable pub making_no : List ℕ → Option (List ℕ) → ℕ → ℕ → ℕ
making_no s r room cells = choosing_no s r (output_fits s room) cells

-- "A load asks the sheet's questions, then 22", then the rank list's.
unfoldable pub load_asked_no : List ℕ → Option (List ℕ) → ℕ → ℕ
load_asked_no s r cells = then_no (then_no (sheet_no s) (workspace_no cells)) (ranks_no (point_count s) r)

-- These, and then 61: the first no of a load, 0 if there is none.
unfoldable pub load_no : List ℕ → Option (List ℕ) → ℕ → ℕ
load_no s r cells = then_no (load_asked_no s r cells) (choice_no s)

-- "When a plate is made, ... the whole workspace is zero"; on a refusal it stays untouched, but 61, "unlike the others", "leaves the whole
-- workspace zero" (document 02 (c)). The workspace w after a call whose number is k.
abbrev pub workspace_after : ℕ → List ℕ → List ℕ
workspace_after k w = cond (eqb k 0 || eqb k 61) (replicate (length w) 0) w

-- "When a plate is made, bytes past its end are untouched", and on a refusal all bytes are, 61 included. The output o after a making of s,
-- with the rank list r or none, whose number is k.
abbrev pub output_after : ℕ → List ℕ → Option (List ℕ) → List ℕ → List ℕ
output_after k s r o = cond (eqb k 0) (best_plate s r ++ drop (length (best_plate s r)) o) o
