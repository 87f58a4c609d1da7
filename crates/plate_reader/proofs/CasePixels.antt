-- Single pixels of P1, P2 and P8, looked at from the sheet's bytes: the margin never conflicts, so no theorem about validity notices
-- a leader or an outer label that is drawn wrong there. Assumes nothing.
use Rattle.std.specs.Prelude.{refl, List, [], ◌∷◌}
use Rattle.labeling.specs.Points.{at_column, in_margin, before, insert, outside_below, outside}
use Rattle.labeling.specs.Points.{next_margin, placed_from, placed, margin_in, margin_column, among}
use Rattle.labeling.specs.Marks.{marks_b}
use Rattle.labeling.proofs.Looks.{Look, marked, unmarked, Seen, seen}
use Rattle.format.specs.Sheet.{two_bytes, points_of}
use Rattle.format.specs.Plate.{choice_of}
use Rattle.plate_reader.proofs.Cases.{sheet1, sheet2, sheet8}

-- P1, labels 4 by 2: (4,4) inside; (2,3) outside in margin column 0.
abbrev pub looks1 : List Look
looks1 =
    marked 1 (at_column 4 4) ∷ marked 1 (at_column 7 5) ∷ unmarked 1 (at_column 3 4) ∷ unmarked 1 (at_column 8 4) ∷ unmarked 1 (at_column 4 3) ∷
    unmarked 1 (at_column 4 6) ∷ unmarked 1 (in_margin 0 4) ∷
    marked 0 (at_column 2 3) ∷ marked 0 (at_column 0 3) ∷ unmarked 0 (at_column 3 3) ∷ unmarked 0 (at_column 2 4) ∷ marked 0 (in_margin 0 3) ∷
    marked 0 (in_margin 3 4) ∷ unmarked 0 (in_margin 4 3) ∷ unmarked 0 (in_margin 0 5) ∷ unmarked 0 (in_margin 0 2) ∷ []

-- P2, labels 4 by 3: (8,7) inside; (0,5) outside in margin column 1.
abbrev pub looks2 : List Look
looks2 =
    marked 2 (at_column 11 9) ∷ unmarked 2 (at_column 12 9) ∷ unmarked 2 (at_column 11 10) ∷
    marked 0 (at_column 0 5) ∷ unmarked 0 (at_column 1 5) ∷ marked 0 (in_margin 0 5) ∷ marked 0 (in_margin 3 5) ∷ unmarked 0 (in_margin 3 6) ∷
    marked 0 (in_margin 4 5) ∷ marked 0 (in_margin 7 7) ∷ unmarked 0 (in_margin 8 5)
    ∷ unmarked 0 (in_margin 4 8) ∷ unmarked 0 (in_margin 4 4) ∷ []

-- P8, labels 4 by 3, nothing inside: (0,9) in margin column 1, (2,7) in margin column 2.
abbrev pub looks8 : List Look
looks8 =
    marked 1 (in_margin 3 9) ∷ marked 1 (in_margin 4 11) ∷ unmarked 1 (in_margin 3 10) ∷ unmarked 1 (in_margin 8 9) ∷
    marked 2 (at_column 2 7) ∷ unmarked 2 (at_column 3 7) ∷ marked 2 (in_margin 0 7) ∷ marked 2 (in_margin 7 7) ∷ unmarked 2 (in_margin 7 8) ∷
    marked 2 (in_margin 8 7) ∷ marked 2 (in_margin 11 9) ∷ unmarked 2 (in_margin 12 7) ∷ unmarked 2 (in_margin 8 10) ∷ []

pub seen1 : Seen (points_of sheet1) (choice_of (1 ∷ 2 ∷ [])) looks1
unfolding two_bytes marks_b among before insert outside_below outside next_margin placed_from placed margin_in margin_column
seen1 = seen (points_of sheet1) (choice_of (1 ∷ 2 ∷ [])) looks1 refl

pub seen2 : Seen (points_of sheet2) (choice_of (2 ∷ [])) looks2
unfolding two_bytes marks_b among before insert outside_below outside next_margin placed_from placed margin_in margin_column
seen2 = seen (points_of sheet2) (choice_of (2 ∷ [])) looks2 refl

pub seen8 : Seen (points_of sheet8) (choice_of []) looks8
unfolding two_bytes marks_b among before insert outside_below outside next_margin placed_from placed margin_in margin_column
seen8 = seen (points_of sheet8) (choice_of []) looks8 refl
