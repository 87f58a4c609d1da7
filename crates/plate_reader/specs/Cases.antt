-- Document 01's cases P1 to P10, and of document 02 labels at the map's edges (a), stacked outer labels (b), shared rows (c), ties (d) and
-- ranks (e), from the sheet's bytes: the table, and what a case says, in the words of labeling (valid over pixels) and of format's
-- Plate.antt (the plate of a choice, the best plate). proofs/Cases.antt has the table's theorem. Assumes nothing.
use Rattle.std.specs.Prelude.{◌≡◌, List, [], ◌∷◌, ◌++◌, ℕ, Option, None, Some}
use Rattle.labeling.specs.Marks.{Valid}
use Rattle.format.specs.RankList.{ranks_no}
use Rattle.format.specs.Sheet.{point_count, points_of, sheet_no}
use Rattle.format.specs.Plate.{choice_of, plate_of, best_plate}
use Rattle.format.specs.MakingQuestions.{choice_no}
use Rattle.clash.specs.declared.ClashKind.{ClashKind}
use Rattle.clash.specs.declared.ClashKind.TheVariants.{Labels, LabelAndLeader, Overhang, TwoLeaders}
use Rattle.clash.specs.ClashPixels.{Named}
use Rattle.plate_reader.specs.PlateQuestions.{plate_no}

-- What a case says of its choice: that its plate is the one that is made, with this rank list or none; that it is valid; or its first
-- clash, the two positions and the kind.
pub data Expected : Type 0 where
  made_with : (ranks : Option (List ℕ)) → Expected
  valid : Expected
  clashes : (first second : ℕ) → ClashKind → Expected

-- made without a list
abbrev pub made : Expected
made = made_with None

-- A sheet, the positions of a choice, what is to hold of that choice, and the bytes that its plate adds to the sheet's.
pub record Case : Type 0 where
  pub sheet : List ℕ
  pub inside : List ℕ
  pub expected : Expected
  pub added : List ℕ

-- THE TABLE

-- A point's bytes: call number, column and row, all below 256.
abbrev pub at : ℕ → ℕ → ℕ → List ℕ → List ℕ
at number c r after = number ∷ 0 ∷ c ∷ 0 ∷ r ∷ 0 ∷ after

-- The start of a sheet whose map is 20 by 12: label width, label height, point count.
abbrev pub sheet : ℕ → ℕ → ℕ → List ℕ → List ℕ
sheet w h n points = 1 ∷ 20 ∷ 0 ∷ 12 ∷ 0 ∷ w ∷ 0 ∷ h ∷ 0 ∷ n ∷ points

-- P1's bytes as document 01 gives them, in decimal.
abbrev pub sheet1 : List ℕ
sheet1 = 1 ∷ 20 ∷ 0 ∷ 10 ∷ 0 ∷ 4 ∷ 0 ∷ 2 ∷ 0 ∷ 3 ∷ 17 ∷ 0 ∷ 2 ∷ 0 ∷ 3 ∷ 0 ∷ 18 ∷ 0 ∷ 4 ∷ 0 ∷ 4 ∷ 0 ∷ 19 ∷ 0 ∷ 10 ∷ 0 ∷ 7 ∷ 0 ∷ []

abbrev pub sheet2 : List ℕ
sheet2 = sheet 4 3 3 (at 1 0 5 (at 2 6 6 (at 3 8 7 [])))

abbrev pub sheet8 : List ℕ
sheet8 = sheet 4 3 3 (at 1 5 10 (at 2 0 9 (at 3 2 7 [])))

-- Label 4 by 3, all in column 18, so that each label would leave the map: rows 10, 9 and r.
abbrev pub stacked : ℕ → List ℕ
stacked r = sheet 4 3 3 (at 1 18 10 (at 2 18 9 (at 3 18 r [])))

-- Two such points, h apart: in one margin column their outer labels would touch.
abbrev pub touching : List ℕ
touching = sheet 4 3 2 (at 1 18 10 (at 2 18 7 []))

-- The start of a sheet with P1's map, 20 by 10, and P1's label, 4 by 2: point count.
abbrev pub framed : ℕ → List ℕ → List ℕ
framed n points = 1 ∷ 20 ∷ 0 ∷ 10 ∷ 0 ∷ 4 ∷ 0 ∷ 2 ∷ 0 ∷ n ∷ points

-- Label 4 by 3, points (11,2), (8,6), (6,5), (5,4), (10,0).
abbrev pub sheet_of_five : List ℕ
sheet_of_five = sheet 4 3 5 (at 1 11 2 (at 2 8 6 (at 3 6 5 (at 4 5 4 (at 5 10 0 [])))))

-- Label 4 by 2, two points of row 3 in these columns.
abbrev pub ridge : ℕ → ℕ → List ℕ
ridge c d = sheet 4 2 2 (at 1 c 3 (at 2 d 3 []))

-- Label 4 by 2, points (11,9), (4,3), (12,8), (3,4).
abbrev four_best : List ℕ
four_best = sheet 4 2 4 (at 1 11 9 (at 2 4 3 (at 3 12 8 (at 4 3 4 []))))

-- Label 4 by 2, points (8,2), (9,1), (7,3), (6,4).
abbrev stairs : List ℕ
stairs = sheet 4 2 4 (at 1 8 2 (at 2 9 1 (at 3 7 3 (at 4 6 4 []))))

-- Label 4 by 2, points (8,3), (6,4), (4,5): the second's label meets the others', which don't meet each other.
abbrev one_or_two : List ℕ
one_or_two = sheet 4 2 3 (at 1 8 3 (at 2 6 4 (at 3 4 5 [])))

-- The same points, (6,4) first.
abbrev two_or_one : List ℕ
two_or_one = sheet 4 2 3 (at 1 6 4 (at 2 8 3 (at 3 4 5 [])))

abbrev pub cases : List Case
cases =
    -- P1: "The plate adds 02 01 02 01 00 00."
    record { sheet = sheet1; inside = 1 ∷ 2 ∷ []; expected = made; added = 2 ∷ 1 ∷ 2 ∷ 1 ∷ 0 ∷ 0 ∷ [] } ∷
    -- the outside points take columns 0, 1, 0 from the top down: the greatest column is neither the last pair's nor the
    -- outside count
    record { sheet = sheet_of_five; inside = 0 ∷ 1 ∷ []; expected = made; added = 2 ∷ 0 ∷ 1 ∷ 3 ∷ 2 ∷ 0 ∷ 3 ∷ 1 ∷ 4 ∷ 0 ∷ [] } ∷
    -- document 02 (b): "P9 becomes 0, 1, 2"
    record { sheet = stacked 6; inside = []; expected = made; added = 0 ∷ 3 ∷ 0 ∷ 0 ∷ 1 ∷ 1 ∷ 2 ∷ 2 ∷ [] } ∷
    -- document 02 (b): "outside rows 10, 9, 5 with h = 3 give 0, 1, 0"
    record { sheet = stacked 5; inside = []; expected = made; added = 0 ∷ 3 ∷ 0 ∷ 0 ∷ 1 ∷ 1 ∷ 2 ∷ 0 ∷ [] } ∷
    -- two outside points 3 rows apart with h = 3: side by side
    record { sheet = touching; inside = []; expected = made; added = 0 ∷ 2 ∷ 0 ∷ 0 ∷ 1 ∷ 1 ∷ [] } ∷
    -- "On P1, a fresh desk gives list ... 01 00 number 2, clash of 0 and 1"
    record { sheet = sheet1; inside = 0 ∷ []; expected = clashes 0 1 LabelAndLeader; added = 1 ∷ 0 ∷ 2 ∷ 2 ∷ 0 ∷ 1 ∷ 0 ∷ [] } ∷
    -- P2: "only the third inside; margin columns 1 for the first, 0 for the second"
    record { sheet = sheet2; inside = 2 ∷ []; expected = made; added = 1 ∷ 2 ∷ 2 ∷ 1 ∷ 0 ∷ 0 ∷ 1 ∷ [] } ∷
    -- P3: "label 4 by 2, (2,3) and (6,4): both inside"
    record { sheet = sheet 4 2 2 (at 1 2 3 (at 2 6 4 [])); inside = 0 ∷ 1 ∷ []; expected = made; added = 2 ∷ 0 ∷ 1 ∷ 0 ∷ [] } ∷
    -- P4: "(2,3) and (5,4): the second alone"
    record { sheet = sheet 4 2 2 (at 1 2 3 (at 2 5 4 [])); inside = 1 ∷ []; expected = made; added = 1 ∷ 1 ∷ 1 ∷ 0 ∷ 0 ∷ [] } ∷
    -- P4's two points both inside
    record {
      sheet = sheet 4 2 2 (at 1 2 3 (at 2 5 4 []));
      inside = 0 ∷ 1 ∷ [];
      expected = clashes 0 1 Labels;
      added = 2 ∷ 0 ∷ 1 ∷ 0 ∷ [];
    } ∷
    -- P5: "(4,3) inside and (3,4) outside: valid", and so is (3,4) alone inside; "The two-point tie of document 01 puts the first point
    -- inside" (document 02 (d))
    record { sheet = sheet 4 2 2 (at 1 4 3 (at 2 3 4 [])); inside = 0 ∷ []; expected = made; added = 1 ∷ 0 ∷ 1 ∷ 1 ∷ 0 ∷ [] } ∷
    -- the two exchanged in the sheet: the first is (3,4) then
    record { sheet = sheet 4 2 2 (at 1 3 4 (at 2 4 3 [])); inside = 0 ∷ []; expected = made; added = 1 ∷ 0 ∷ 1 ∷ 1 ∷ 0 ∷ [] } ∷
    -- the other best choice of P5
    record { sheet = sheet 4 2 2 (at 1 4 3 (at 2 3 4 [])); inside = 1 ∷ []; expected = valid; added = 1 ∷ 1 ∷ 1 ∷ 0 ∷ 0 ∷ [] } ∷
    -- P5 twice: of (12,8) and (11,9) one is inside, and of (4,3) and (3,4), so there are four best choices. The first two of the sheet are
    -- preferred; by height, from below or from above, or by column it would be another pair
    record {
      sheet = four_best;
      inside = 0 ∷ 1 ∷ [];
      expected = made;
      added = 2 ∷ 0 ∷ 1 ∷ 2 ∷ 2 ∷ 0 ∷ 3 ∷ 0 ∷ [];
    } ∷
    -- the three others
    record { sheet = four_best; inside = 0 ∷ 3 ∷ []; expected = valid; added = 2 ∷ 0 ∷ 3 ∷ 2 ∷ 2 ∷ 0 ∷ 1 ∷ 0 ∷ [] } ∷
    record { sheet = four_best; inside = 1 ∷ 2 ∷ []; expected = valid; added = 2 ∷ 1 ∷ 2 ∷ 2 ∷ 0 ∷ 0 ∷ 3 ∷ 0 ∷ [] } ∷
    record { sheet = four_best; inside = 2 ∷ 3 ∷ []; expected = valid; added = 2 ∷ 2 ∷ 3 ∷ 2 ∷ 0 ∷ 0 ∷ 1 ∷ 0 ∷ [] } ∷
    -- stairs, (9,1), (8,2), (7,3), (6,4), of which no two neighbours can be inside: (9,1) with (7,3), (9,1) with (6,4) and (8,2) with (6,4)
    -- are best. In this sheet the last two differ first at (8,2), which is preferred, and last at (9,1)
    record {
      sheet = stairs;
      inside = 0 ∷ 3 ∷ [];
      expected = made;
      added = 2 ∷ 0 ∷ 3 ∷ 2 ∷ 2 ∷ 0 ∷ 1 ∷ 1 ∷ [];
    } ∷
    -- the two others
    record { sheet = stairs; inside = 1 ∷ 3 ∷ []; expected = valid; added = 2 ∷ 1 ∷ 3 ∷ 2 ∷ 2 ∷ 0 ∷ 0 ∷ 1 ∷ [] } ∷
    record { sheet = stairs; inside = 1 ∷ 2 ∷ []; expected = valid; added = 2 ∷ 1 ∷ 2 ∷ 2 ∷ 3 ∷ 0 ∷ 0 ∷ 1 ∷ [] } ∷
    -- P6: "the second at (4,4): a clash"
    record {
      sheet = sheet 4 2 2 (at 1 4 3 (at 2 4 4 []));
      inside = 0 ∷ [];
      expected = clashes 0 1 LabelAndLeader;
      added = 1 ∷ 0 ∷ 1 ∷ 1 ∷ 0 ∷ [];
    } ∷
    -- P7: "(2,3) and (2,5), label 4 by 2: both inside"
    record { sheet = sheet 4 2 2 (at 1 2 3 (at 2 2 5 [])); inside = 0 ∷ 1 ∷ []; expected = made; added = 2 ∷ 0 ∷ 1 ∷ 0 ∷ [] } ∷
    -- P8: "h = 3, outside rows 10, 9, 7: columns 0, 1, 2"
    record { sheet = sheet8; inside = []; expected = valid; added = 0 ∷ 3 ∷ 0 ∷ 0 ∷ 1 ∷ 1 ∷ 2 ∷ 2 ∷ [] } ∷
    -- P10: "n = 0: the plate adds 00 00"
    record { sheet = sheet 4 2 0 []; inside = []; expected = made; added = 0 ∷ 0 ∷ [] } ∷
    -- document 02 (a): "With P1's map and label a point at (18,2) can then only be outside."
    record { sheet = framed 1 (at 1 18 2 []); inside = []; expected = made; added = 0 ∷ 1 ∷ 0 ∷ 0 ∷ [] } ∷
    -- the same point inside: "a clash of a position with itself"
    record { sheet = framed 1 (at 1 18 2 []); inside = 0 ∷ []; expected = clashes 0 0 Overhang; added = 1 ∷ 0 ∷ 0 ∷ [] } ∷
    -- (16,3) just touches the right edge, (5,8) the top edge: both inside
    record { sheet = framed 2 (at 1 16 3 (at 2 5 8 [])); inside = 0 ∷ 1 ∷ []; expected = made; added = 2 ∷ 0 ∷ 1 ∷ 0 ∷ [] } ∷
    -- (16,8) touches both
    record { sheet = framed 1 (at 1 16 8 []); inside = 0 ∷ []; expected = made; added = 1 ∷ 0 ∷ 0 ∷ [] } ∷
    -- (17,3) and (5,9), one pixel further: both outside
    record { sheet = framed 2 (at 1 17 3 (at 2 5 9 [])); inside = []; expected = made; added = 0 ∷ 2 ∷ 1 ∷ 0 ∷ 0 ∷ 0 ∷ [] } ∷
    -- (17,4) overhangs and its label meets that of (15,3): the overhang comes first
    record {
      sheet = framed 2 (at 1 17 4 (at 2 15 3 []));
      inside = 0 ∷ 1 ∷ [];
      expected = clashes 0 0 Overhang;
      added = 2 ∷ 0 ∷ 1 ∷ 0 ∷ [];
    } ∷
    -- the two in the other order: the two labels come first
    record { sheet = framed 2 (at 1 15 3 (at 2 17 4 [])); inside = 0 ∷ 1 ∷ []; expected = clashes 0 1 Labels; added = 2 ∷ 0 ∷ 1 ∷ 0 ∷ [] } ∷
    -- (17,4) overhangs and its label meets the leader of (18,5): the overhang comes first
    record {
      sheet = framed 2 (at 1 17 4 (at 2 18 5 []));
      inside = 0 ∷ [];
      expected = clashes 0 0 Overhang;
      added = 1 ∷ 0 ∷ 1 ∷ 1 ∷ 0 ∷ [];
    } ∷
    -- the two in the other order: label and leader come first, and (18,5), outside, does not overhang
    record {
      sheet = framed 2 (at 1 18 5 (at 2 17 4 []));
      inside = 1 ∷ [];
      expected = clashes 0 1 LabelAndLeader;
      added = 1 ∷ 1 ∷ 1 ∷ 0 ∷ 0 ∷ [];
    } ∷
    -- (18,2), outside, does not overhang; (17,5), inside, does
    record {
      sheet = framed 2 (at 1 18 2 (at 2 17 5 []));
      inside = 1 ∷ [];
      expected = clashes 1 1 Overhang;
      added = 1 ∷ 1 ∷ 1 ∷ 0 ∷ 0 ∷ [];
    } ∷
    -- (8,3) outside meets the label of (6,2); (18,5), between them in the list, overhangs: the pair comes first
    record {
      sheet = framed 3 (at 1 8 3 (at 2 18 5 (at 3 6 2 [])));
      inside = 1 ∷ 2 ∷ [];
      expected = clashes 0 2 LabelAndLeader;
      added = 2 ∷ 1 ∷ 2 ∷ 1 ∷ 0 ∷ 0 ∷ [];
    } ∷
    -- (2,8) is clear; (17,4) overhangs and meets (15,3): the overhang comes before the pair with the same first position
    record {
      sheet = framed 3 (at 1 2 8 (at 2 17 4 (at 3 15 3 [])));
      inside = 0 ∷ 1 ∷ 2 ∷ [];
      expected = clashes 1 1 Overhang;
      added = 3 ∷ 0 ∷ 1 ∷ 2 ∷ 0 ∷ [];
    } ∷
    -- document 02 (c), (2,3) and (8,3): both inside
    record { sheet = ridge 2 8; inside = 0 ∷ 1 ∷ []; expected = made; added = 2 ∷ 0 ∷ 1 ∷ 0 ∷ [] } ∷
    -- the left one inside, the right one outside: its leader runs through the label
    record { sheet = ridge 2 8; inside = 0 ∷ []; expected = clashes 0 1 LabelAndLeader; added = 1 ∷ 0 ∷ 1 ∷ 1 ∷ 0 ∷ [] } ∷
    -- the left one outside, the right one inside
    record { sheet = ridge 2 8; inside = 1 ∷ []; expected = valid; added = 1 ∷ 1 ∷ 1 ∷ 0 ∷ 0 ∷ [] } ∷
    -- both outside: "Two leaders in one row share pixels"; "with the smaller column first", side by side, "so such a plate gets 44"
    record { sheet = ridge 2 8; inside = []; expected = clashes 0 1 TwoLeaders; added = 0 ∷ 2 ∷ 0 ∷ 0 ∷ 1 ∷ 1 ∷ [] } ∷
    -- the smaller column is the second position's
    record { sheet = ridge 8 2; inside = []; expected = clashes 0 1 TwoLeaders; added = 0 ∷ 2 ∷ 1 ∷ 0 ∷ 0 ∷ 1 ∷ [] } ∷
    -- the labels of (2,3) and (5,3) would meet: the left one is outside
    record { sheet = ridge 2 5; inside = 1 ∷ []; expected = made; added = 1 ∷ 1 ∷ 1 ∷ 0 ∷ 0 ∷ [] } ∷
    -- one outside in each of two shared rows
    record {
      sheet = sheet 4 2 4 (at 1 2 3 (at 2 5 3 (at 3 10 8 (at 4 12 8 []))));
      inside = 1 ∷ 3 ∷ [];
      expected = made;
      added = 2 ∷ 1 ∷ 3 ∷ 2 ∷ 2 ∷ 0 ∷ 0 ∷ 0 ∷ [];
    } ∷
    -- (2,3) and (8,3) are two leaders; the label of (3,3), the third, is on the second's leader: the two leaders come first
    record {
      sheet = sheet 4 2 3 (at 1 2 3 (at 2 8 3 (at 3 3 3 [])));
      inside = 2 ∷ [];
      expected = clashes 0 1 TwoLeaders;
      added = 1 ∷ 2 ∷ 2 ∷ 0 ∷ 0 ∷ 1 ∷ 1 ∷ [];
    } ∷
    -- the label of (3,3), the first here, is on the leader of (8,3), the third; the second and the third are two leaders, and come later
    record {
      sheet = sheet 4 2 3 (at 1 3 3 (at 2 2 3 (at 3 8 3 [])));
      inside = 0 ∷ [];
      expected = clashes 0 2 LabelAndLeader;
      added = 1 ∷ 0 ∷ 2 ∷ 1 ∷ 0 ∷ 2 ∷ 1 ∷ [];
    } ∷
    -- (2,3) and (8,3) are two leaders, and (18,7), inside, leaves the map: the two leaders come first
    record {
      sheet = sheet 4 2 3 (at 1 2 3 (at 2 8 3 (at 3 18 7 [])));
      inside = 2 ∷ [];
      expected = clashes 0 1 TwoLeaders;
      added = 1 ∷ 2 ∷ 2 ∷ 0 ∷ 0 ∷ 1 ∷ 1 ∷ [];
    } ∷
    -- (18,7) first: its overhang comes first
    record {
      sheet = sheet 4 2 3 (at 1 18 7 (at 2 2 3 (at 3 8 3 [])));
      inside = 0 ∷ [];
      expected = clashes 0 0 Overhang;
      added = 1 ∷ 0 ∷ 2 ∷ 1 ∷ 0 ∷ 2 ∷ 1 ∷ [];
    } ∷
    -- document 02 (e): document 01's tie of counts, (4,3) and (3,4), with the ranks 1 and 2: the second is inside
    record {
      sheet = sheet 4 2 2 (at 1 4 3 (at 2 3 4 []));
      inside = 1 ∷ [];
      expected = made_with (Some (2 ∷ 1 ∷ 2 ∷ []));
      added = 1 ∷ 1 ∷ 1 ∷ 0 ∷ 0 ∷ [];
    } ∷
    -- P10 with its list, the count byte alone
    record { sheet = sheet 4 2 0 []; inside = []; expected = made_with (Some (0 ∷ [])); added = 0 ∷ 0 ∷ [] } ∷
    -- two of three without a list;
    record { sheet = one_or_two; inside = 0 ∷ 2 ∷ []; expected = made; added = 2 ∷ 0 ∷ 2 ∷ 1 ∷ 1 ∷ 0 ∷ [] } ∷
    -- a rank 9 beats two of 1;
    record {
      sheet = one_or_two;
      inside = 1 ∷ [];
      expected = made_with (Some (3 ∷ 1 ∷ 9 ∷ 1 ∷ []));
      added = 1 ∷ 1 ∷ 2 ∷ 2 ∷ 0 ∷ 0 ∷ 1 ∷ [];
    } ∷
    -- 3 and 2 beat 4: the sum decides, not the greatest rank;
    record {
      sheet = one_or_two;
      inside = 0 ∷ 2 ∷ [];
      expected = made_with (Some (3 ∷ 3 ∷ 4 ∷ 2 ∷ []));
      added = 2 ∷ 0 ∷ 2 ∷ 1 ∷ 1 ∷ 0 ∷ [];
    } ∷
    -- equal sums, 1 and 1 against 2: "ties as in the preceding request", the one with the first point inside;
    record {
      sheet = one_or_two;
      inside = 0 ∷ 2 ∷ [];
      expected = made_with (Some (3 ∷ 1 ∷ 2 ∷ 1 ∷ []));
      added = 2 ∷ 0 ∷ 2 ∷ 1 ∷ 1 ∷ 0 ∷ [];
    } ∷
    -- and so too where that has fewer inside
    record {
      sheet = two_or_one;
      inside = 0 ∷ [];
      expected = made_with (Some (3 ∷ 2 ∷ 1 ∷ 1 ∷ []));
      added = 1 ∷ 0 ∷ 2 ∷ 2 ∷ 0 ∷ 1 ∷ 1 ∷ [];
    } ∷ []

-- WHAT A CASE SAYS

-- Of a case that is made: the rank list is right, 61 is answered yes, and the best plate of sheet and list has these bytes.
abbrev pub Says : Expected → Case → Type 0
Says (made_with r) c =
    (ranks_no (point_count c.sheet) r ≡ 0) × (choice_no c.sheet ≡ 0) × (best_plate c.sheet r ≡ c.sheet ++ c.added)
Says valid c = Valid (points_of c.sheet) (choice_of c.inside)
Says (clashes i j k) c = Named (points_of c.sheet) (choice_of c.inside) i j k

-- What the plate's questions answer: 0, or "Is the choice valid? 44".
abbrev pub read_no : Expected → ℕ
read_no (made_with r) = 0
read_no valid = 0
read_no (clashes i j k) = 44

pub record Right (c : Case) : Type 0 where
  pub accepted : sheet_no c.sheet ≡ 0
  pub expected : Says c.expected c
  pub plate : plate_of c.sheet (choice_of c.inside) ≡ c.sheet ++ c.added
  pub read : plate_no (c.sheet ++ c.added) ≡ read_no c.expected

abbrev pub Each : List Case → Type 0
Each [] = Unit {0}
Each (c ∷ cs) = Right c × Each cs
