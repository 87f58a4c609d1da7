-- The printed text of single sheets: P1's is what document 01 says, P9's has the margin columns of document 02 (b), and where no choice is
-- valid, it is a refusal's. Assumes nothing.
use Rattle.std.specs.Prelude.{◌≡◌, refl, List, ℕ, ◌≤◌, None}
use Rattle.std.proofs.Common.{◌∙◌, arith}
use Rattle.labeling.specs.Conflicts.{conflict_b, every, apart_b, within_b, valid_b}
use Rattle.labeling.specs.Best.{weight_below, weight, put, best_from, best}
use Rattle.format.specs.Sizes.{plate_room, workspace_cells}
use Rattle.format.specs.Sheet.{two_bytes, point_count, unlike_earlier, point_no, points_no, questions_no, sheet_no}
use Rattle.format.specs.RankList.{ranks_no}
use Rattle.format.proofs.RightRanks.{none_right}
use Rattle.format.proofs.Accepted.{accepted}
use Rattle.format.specs.MakingQuestions.{room_no, asked_no, choice_no, choosing_no, making_no}
use Rattle.format.proofs.MakingQuestions.{none-choice, none-making}
use Rattle.format.specs.Plate.{best_plate}
use Rattle.plate_reader.proofs.Cases.{sheet1, sheet_of_five, stacked, all_right}
use Rattle.plate_reader.proofs.Refusals.{crowded}
use Rattle.lines.specs.Text.{ascii, decimal_in, decimal, spaced}
use Rattle.lines.specs.DeskLines.{refusal_line}
use Rattle.lines.specs.Listing.{listing_of}
use Rattle.lines.proofs.LineCases.{all_listed}
use Rattle.print_plate.specs.PrintedText.{printed_text}

made-printed : (s p : List ℕ) → sheet_no s ≡ 0 → choice_no s ≡ 0 → best_plate s None ≡ p → printed_text s ≡ listing_of p
unfolding printed_text
made-printed s p ok some_valid e =
    let a = accepted s ok in
    let few : point_count s ≤ 32 = a.proper.few in
    let made : making_no s None plate_room workspace_cells ≡ 0 =
    (none-making s None plate_room workspace_cells).of
    (((a, (omega arith, (omega arith, tt))), none_right (point_count s)), (none-choice s a).is some_valid) in
    rw (made, e)

-- P1: "The printing program, given this sheet on standard input, writes exactly".
pub p1-printed : printed_text sheet1 ≡ ascii "plate 3 2 1\n17 out 0\n18 in\n19 in\n"
p1-printed =
    let c = all_right.0 in
    made-printed sheet1 _ c.accepted c.expected.1 c.expected.2 ∙ all_listed.0

-- Two margin columns are used: not one more than the last pair's column, which is 0, and not the outside count, which is 3.
pub five-printed : printed_text sheet_of_five ≡ ascii "plate 5 2 2\n1 in\n2 in\n3 out 0\n4 out 1\n5 out 0\n"
five-printed =
    let c = all_right.1.0 in
    made-printed sheet_of_five _ c.accepted c.expected.1 c.expected.2 ∙ all_listed.1.0

-- P9: "0, 1, 2", so three margin columns are used.
pub p9-printed : printed_text (stacked 6) ≡ ascii "plate 3 0 3\n1 out 0\n2 out 1\n3 out 2\n"
p9-printed =
    let c = all_right.1.1.0 in
    made-printed (stacked 6) _ c.accepted c.expected.1 c.expected.2 ∙ all_listed.1.1.0

-- "label 4 by 2, three points at columns 0, 2 and 4 of one row" (document 02 (c)): no choice is valid.
crowded-no : making_no crowded None plate_room workspace_cells ≡ 61
unfolding two_bytes every unlike_earlier point_no points_no questions_no sheet_no ranks_no room_no asked_no choosing_no making_no
    conflict_b apart_b within_b valid_b weight_below weight put best_from best
crowded-no = refl

pub crowded-printed : printed_text crowded ≡ ascii "refused 61\n"
unfolding decimal_in decimal spaced refusal_line printed_text
crowded-printed = rw crowded-no
