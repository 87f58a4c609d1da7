-- Sheets with the number of their first no: one table, one theorem. It shows each question 11 to 20 refuse something, each limit from
-- both sides, and the order of the questions where a sheet has several that are answered no. Then plates whose outside pairs aren't the
-- rule's, sheets without a valid choice, and wrong rank lists beside them. Assumes nothing.
use Rattle.std.specs.Prelude.{◌≡◌, refl, Bool, true, ◌&&◌, List, [], ◌∷◌, ◌++◌, ℕ, zero, suc, pred, eqb, take, Option, None, Some}
use Rattle.std.proofs.Common.{eqb-true}
use Rattle.labeling.specs.Points.{before, insert, outside_below, outside, next_margin, placed_from, placed, among}
use Rattle.labeling.specs.Conflicts.{conflict_b, every, apart_b, within_b, valid_b}
use Rattle.labeling.specs.Best.{weight_below, weight, put, best_from, best, Feasible}
use Rattle.labeling.proofs.Decide.{and_left, and_right}
use Rattle.format.specs.Sizes.{workspace_cells}
use Rattle.format.specs.Sheet.{two_bytes, points_of, unlike_earlier, point_no, points_no, questions_no, sheet_no, plate_sheet_no}
use Rattle.format.specs.RankList.{rank_in, rank_count_right, ranks_allowed, ranks_no}
use Rattle.format.specs.MakingQuestions.{room_no, asked_no, choosing_no, making_no, load_asked_no, load_no}
use Rattle.format.proofs.SharedRows.{making-61}
use Rattle.format.specs.Plate.{pairs}
use Rattle.format.specs.Ascending.{ascending}
use Rattle.plate_reader.specs.PlateQuestions.{sheet_of, inside_list, outside_pairs, sections_fit, pairs_right, sections_no, plate_no}
use Rattle.plate_reader.proofs.Cases.{at, sheet, sheet1, stacked, touching, ridge}

-- A sheet and the number of its first no, 0 for none.
pub record Row : Type 0 where
  pub bytes : List ℕ
  pub no : ℕ

abbrev pub row : ℕ → List ℕ → Row
row k s = record { bytes = s; no = k }

-- m points: call numbers m down to 1, column 0, rows m - 1 down to 0.
abbrev pub points : ℕ → List ℕ
points zero = []
points (suc m) = at (suc m) 0 m (points m)

-- THE TABLE

abbrev pub table : List Row
table =
    -- accepted: P1; no point at all; sides of 1
    row 0 sheet1 ∷ row 0 (sheet 4 2 0 []) ∷ row 0 (1 ∷ 1 ∷ 0 ∷ 1 ∷ 0 ∷ 1 ∷ 0 ∷ 1 ∷ 0 ∷ 0 ∷ []) ∷
    -- "Are there at least 10 bytes? 11": none; 9; it is asked before 12
    row 11 [] ∷ row 11 (1 ∷ 20 ∷ 0 ∷ 12 ∷ 0 ∷ 4 ∷ 0 ∷ 2 ∷ 0 ∷ []) ∷ row 11 (0 ∷ []) ∷
    -- "Is the first byte 1? 12": 0; 2; it is asked before 13
    row 12 (0 ∷ 20 ∷ 0 ∷ 12 ∷ 0 ∷ 4 ∷ 0 ∷ 2 ∷ 0 ∷ 0 ∷ []) ∷ row 12 (2 ∷ 20 ∷ 0 ∷ 12 ∷ 0 ∷ 4 ∷ 0 ∷ 2 ∷ 0 ∷ 0 ∷ []) ∷
    row 12 (0 ∷ 0 ∷ 0 ∷ 12 ∷ 0 ∷ 4 ∷ 0 ∷ 2 ∷ 0 ∷ 0 ∷ []) ∷
    -- "Are both map sides allowed? 13": width 0; height 0; 4,096 by 4,096 is; width 4,097; height 4,097; it is asked before 14
    row 13 (1 ∷ 0 ∷ 0 ∷ 12 ∷ 0 ∷ 4 ∷ 0 ∷ 2 ∷ 0 ∷ 0 ∷ []) ∷ row 13 (1 ∷ 20 ∷ 0 ∷ 0 ∷ 0 ∷ 4 ∷ 0 ∷ 2 ∷ 0 ∷ 0 ∷ []) ∷
    row 0 (1 ∷ 0 ∷ 16 ∷ 0 ∷ 16 ∷ 4 ∷ 0 ∷ 2 ∷ 0 ∷ 0 ∷ []) ∷
    row 13 (1 ∷ 1 ∷ 16 ∷ 12 ∷ 0 ∷ 4 ∷ 0 ∷ 2 ∷ 0 ∷ 0 ∷ []) ∷ row 13 (1 ∷ 20 ∷ 0 ∷ 1 ∷ 16 ∷ 4 ∷ 0 ∷ 2 ∷ 0 ∷ 0 ∷ []) ∷
    row 13 (1 ∷ 0 ∷ 0 ∷ 12 ∷ 0 ∷ 0 ∷ 0 ∷ 2 ∷ 0 ∷ 0 ∷ []) ∷
    -- "Both label sides? 14": width 0; height 0; 256 by 256 is; width 257; height 257; it is asked before 15
    row 14 (sheet 0 2 0 []) ∷ row 14 (sheet 4 0 0 []) ∷ row 0 (1 ∷ 20 ∷ 0 ∷ 12 ∷ 0 ∷ 0 ∷ 1 ∷ 0 ∷ 1 ∷ 0 ∷ []) ∷
    row 14 (1 ∷ 20 ∷ 0 ∷ 12 ∷ 0 ∷ 1 ∷ 1 ∷ 2 ∷ 0 ∷ 0 ∷ []) ∷ row 14 (1 ∷ 20 ∷ 0 ∷ 12 ∷ 0 ∷ 4 ∷ 0 ∷ 1 ∷ 1 ∷ 0 ∷ []) ∷
    row 14 (sheet 0 2 33 []) ∷
    -- "Is n at most 32? 15": 32 points are; 33 are not, all there or not; it is asked before 16
    row 0 (1 ∷ 20 ∷ 0 ∷ 40 ∷ 0 ∷ 4 ∷ 0 ∷ 2 ∷ 0 ∷ 32 ∷ points 32) ∷ row 15 (1 ∷ 20 ∷ 0 ∷ 40 ∷ 0 ∷ 4 ∷ 0 ∷ 2 ∷ 0 ∷ 33 ∷ points 33) ∷
    row 15 (sheet 4 2 33 []) ∷ row 16 (sheet 4 2 32 []) ∷
    -- "Is the length 10 + 6n? 16": a byte more; a byte less; it is asked before 17
    row 16 (sheet 4 2 0 (0 ∷ [])) ∷ row 16 (sheet 4 2 1 (1 ∷ 0 ∷ 2 ∷ 0 ∷ 3 ∷ [])) ∷ row 16 (sheet 4 2 1 (at 0 2 3 (0 ∷ []))) ∷
    -- "is the call number allowed? 17": 0; 9,999 is; 10,000; it is asked before 18
    row 17 (sheet 4 2 1 (at 0 2 3 [])) ∷ row 0 (sheet 4 2 1 (15 ∷ 39 ∷ 2 ∷ 0 ∷ 3 ∷ 0 ∷ [])) ∷
    row 17 (sheet 4 2 1 (16 ∷ 39 ∷ 2 ∷ 0 ∷ 3 ∷ 0 ∷ [])) ∷
    row 17 (sheet 4 2 1 (at 0 20 12 [])) ∷
    -- "Are column and row on the map? 18": (19, 11) is; column 20; row 12; it is asked before 19
    row 0 (sheet 4 2 1 (at 1 19 11 [])) ∷ row 18 (sheet 4 2 1 (at 1 20 3 [])) ∷ row 18 (sheet 4 2 1 (at 1 2 12 [])) ∷
    row 18 (sheet 4 2 2 (at 1 2 3 (at 1 20 4 []))) ∷
    -- "Is the call number unlike every earlier one? 19": it is asked before 20
    row 19 (sheet 4 2 2 (at 1 2 3 (at 1 6 4 []))) ∷ row 19 (sheet 4 2 2 (at 1 2 3 (at 1 2 3 []))) ∷
    -- "20 is kept for two points on one pixel" (document 02 (c)): the second point repeats the first's; the third does; one row alone is
    -- no repeat, nor one column, nor a column and a row of different points
    row 20 (sheet 4 2 2 (at 1 2 3 (at 2 2 3 []))) ∷ row 20 (sheet 4 2 3 (at 1 2 3 (at 2 6 4 (at 3 2 3 [])))) ∷
    row 0 (sheet 4 2 2 (at 1 2 3 (at 2 6 3 []))) ∷ row 0 (sheet 4 2 2 (at 1 2 3 (at 2 2 4 []))) ∷
    row 0 (sheet 4 2 3 (at 1 2 3 (at 2 6 4 (at 3 2 4 [])))) ∷
    -- "Point by point": the second repeats a pixel, and the third's call number is 0
    row 20 (sheet 4 2 3 (at 1 2 3 (at 2 2 3 (at 0 10 7 [])))) ∷ []

-- Every sheet has the number of its row.
abbrev pub Each : List Row → Type 0
Each [] = Unit {0}
Each (r ∷ rs) = (sheet_no r.bytes ≡ r.no) × Each rs

abbrev each_b : List Row → Bool
each_b [] = true
each_b (r ∷ rs) = eqb (sheet_no r.bytes) r.no && each_b rs

each : (rs : List Row) → each_b rs ≡ true → Each rs
each [] e = tt
each (r ∷ rs) e = (eqb-true _ _ (and_left _ _ e), each rs (and_right (eqb (sheet_no r.bytes) r.no) _ e))

-- THE TABLE'S THEOREM
pub all-refused : Each table
unfolding two_bytes every unlike_earlier point_no points_no questions_no sheet_no
all-refused = each table refl

-- "Is the length 10 + 6n? 16. (In a plate: at least that.)" P1's sheet with a byte more is the start of a plate, and no sheet; with a
-- byte less it is neither.
pub one_more : (plate_sheet_no (sheet1 ++ 0 ∷ []) ≡ 0) × (sheet_no (sheet1 ++ 0 ∷ []) ≡ 16)
unfolding two_bytes every unlike_earlier point_no points_no questions_no sheet_no plate_sheet_no
one_more = (refl, refl)

pub one_less : (plate_sheet_no (sheet 4 2 1 (1 ∷ 0 ∷ 2 ∷ 0 ∷ 3 ∷ [])) ≡ 16) × (sheet_no (sheet 4 2 1 (1 ∷ 0 ∷ 2 ∷ 0 ∷ 3 ∷ [])) ≡ 16)
unfolding two_bytes every unlike_earlier point_no points_no questions_no sheet_no plate_sheet_no
one_less = (refl, refl)

-- "Question 43 refuses old plates that have the closer stacking" (document 02 (b)): two points 3 rows apart, both in margin column 0, where
-- their outer labels touch; P9 with 0, 1, 0. A column greater than the rule's is refused too: rows 10, 9, 5 with 0, 1, 2.
pub not-the-rules : (plate_no (touching ++ 0 ∷ 2 ∷ 0 ∷ 0 ∷ 1 ∷ 0 ∷ []) ≡ 43)
    × (plate_no (stacked 6 ++ 0 ∷ 3 ∷ 0 ∷ 0 ∷ 1 ∷ 1 ∷ 2 ∷ 0 ∷ []) ≡ 43) × (plate_no (stacked 5 ++ 0 ∷ 3 ∷ 0 ∷ 0 ∷ 1 ∷ 1 ∷ 2 ∷ 2 ∷ []) ≡ 43)
unfolding two_bytes every unlike_earlier point_no points_no questions_no plate_sheet_no among before insert outside_below outside next_margin
    placed_from placed pairs sheet_of inside_list outside_pairs sections_fit ascending pairs_right sections_no plate_no
not-the-rules = (refl, refl, refl)

-- "In a plate that is read, outside points of one row stand with the smaller column first and take margin columns by the same rule"
-- (document 02 (c)): (2,3) and (8,3) with the greater column first, and with both in margin column 0.
pub not-in-order : (plate_no (ridge 2 8 ++ 0 ∷ 2 ∷ 1 ∷ 0 ∷ 0 ∷ 1 ∷ []) ≡ 43) × (plate_no (ridge 8 2 ++ 0 ∷ 2 ∷ 0 ∷ 0 ∷ 1 ∷ 1 ∷ []) ≡ 43)
    × (plate_no (ridge 2 8 ++ 0 ∷ 2 ∷ 0 ∷ 0 ∷ 1 ∷ 0 ∷ []) ≡ 43)
unfolding two_bytes every unlike_earlier point_no points_no questions_no plate_sheet_no among before insert outside_below outside next_margin
    placed_from placed pairs sheet_of inside_list outside_pairs sections_fit ascending pairs_right sections_no plate_no
not-in-order = (refl, refl, refl)

-- WITHOUT A VALID CHOICE

-- "label 4 by 2, three points at columns 0, 2 and 4 of one row" (document 02 (c)); and with a fourth elsewhere.
abbrev pub crowded : List ℕ
crowded = sheet 4 2 3 (at 1 0 3 (at 2 2 3 (at 3 4 3 [])))

abbrev pub crowded_four : List ℕ
crowded_four = sheet 4 2 4 (at 1 0 3 (at 2 2 3 (at 3 4 3 (at 4 12 8 []))))

-- With the rank list r or none: the sheet's own questions are answered yes; making and loading have the number 61, but 21 and 22 come
-- first.
pub record NoChoice (s : List ℕ) (r : Option (List ℕ)) (room : ℕ) : Type 0 where
  pub sheet : sheet_no s ≡ 0
  pub making : making_no s r room workspace_cells ≡ 61
  pub loading : load_no s r workspace_cells ≡ 61
  pub output-first : making_no s r (pred room) (pred workspace_cells) ≡ 21
  pub workspace-first : (making_no s r room (pred workspace_cells) ≡ 22) × (load_no s r (pred workspace_cells) ≡ 22)

pub crowded-61 : NoChoice crowded None 36 × NoChoice crowded_four None 44 × NoChoice crowded (Some (3 ∷ 1 ∷ 9 ∷ 5 ∷ [])) 36
unfolding two_bytes every unlike_earlier point_no points_no questions_no sheet_no rank_in rank_count_right ranks_allowed ranks_no
    room_no asked_no choosing_no making_no load_asked_no load_no conflict_b apart_b within_b valid_b weight_below weight put best_from best
crowded-61 = (
  record { sheet = refl; making = refl; loading = refl; output-first = refl; workspace-first = (refl, refl) },
  record { sheet = refl; making = refl; loading = refl; output-first = refl; workspace-first = (refl, refl) },
  record { sheet = refl; making = refl; loading = refl; output-first = refl; workspace-first = (refl, refl) },
)

-- so no choice of theirs is valid
pub crowded-none : (Feasible (points_of crowded) → ⊥) × (Feasible (points_of crowded_four) → ⊥)
crowded-none = (
  ((making-61 crowded None 36 workspace_cells).0 crowded-61.0.making).1,
  ((making-61 crowded_four None 44 workspace_cells).0 crowded-61.1.making).1,
)

-- A WRONG RANK LIST

-- The list r has the number k, 62 or 63: "both after 22 and before 61" (document 02 (e)), here too where no choice is valid; and after the
-- sheet's own questions, here of bytes that are cut short.
pub record WrongRanks (r : List ℕ) (k : ℕ) : Type 0 where
  pub making : making_no crowded (Some r) 36 workspace_cells ≡ k
  pub loading : load_no crowded (Some r) workspace_cells ≡ k
  pub output-first : making_no crowded (Some r) 35 workspace_cells ≡ 21
  pub workspace-first : (making_no crowded (Some r) 36 (pred workspace_cells) ≡ 22) × (load_no crowded (Some r) (pred workspace_cells) ≡ 22)
  pub sheet-first : (making_no (take 9 crowded) (Some r) 36 workspace_cells ≡ 11) × (load_no (take 9 crowded) (Some r) workspace_cells ≡ 11)

-- no byte at all; a count byte that isn't n; a byte too few; the rank 0; the rank 10
pub ranks-first : WrongRanks [] 62 × WrongRanks (2 ∷ 1 ∷ 9 ∷ 5 ∷ []) 62 × WrongRanks (3 ∷ 1 ∷ 9 ∷ []) 62
    × WrongRanks (3 ∷ 1 ∷ 0 ∷ 5 ∷ []) 63 × WrongRanks (3 ∷ 1 ∷ 9 ∷ 10 ∷ []) 63
unfolding two_bytes every unlike_earlier point_no points_no questions_no sheet_no rank_in rank_count_right ranks_allowed ranks_no
    room_no asked_no choosing_no making_no load_asked_no load_no conflict_b apart_b within_b valid_b weight_below weight put best_from best
ranks-first = (
  record { making = refl; loading = refl; output-first = refl; workspace-first = (refl, refl); sheet-first = (refl, refl) },
  record { making = refl; loading = refl; output-first = refl; workspace-first = (refl, refl); sheet-first = (refl, refl) },
  record { making = refl; loading = refl; output-first = refl; workspace-first = (refl, refl); sheet-first = (refl, refl) },
  record { making = refl; loading = refl; output-first = refl; workspace-first = (refl, refl); sheet-first = (refl, refl) },
  record { making = refl; loading = refl; output-first = refl; workspace-first = (refl, refl); sheet-first = (refl, refl) },
)
