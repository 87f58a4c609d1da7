-- DEMAND 2, THE READER'S HALF: "A plate repeats its sheet's bytes, splits the points into inside and outside, and puts no pixel under
-- two marks, margin included. The plate reader accepts just the plates that meet this with the margin columns of document 01, and
-- reads each made plate back to the same split." Document 02 (a) also asks "that no inside label leaves the map": Valid says both.
-- The margin columns are those of document 02 (b). Assumes nothing.
use Rattle.std.specs.Prelude.{◌≡◌, ◌↔◌, List, ℕ}
use Rattle.labeling.specs.Points.{Choice}
use Rattle.labeling.specs.Marks.{Valid}
use Rattle.labeling.specs.Best.{Agree}
use Rattle.format.specs.Sheet.{point_count, points_of, sheet_no}
use Rattle.format.specs.Plate.{inside_below, plate_of}
use Rattle.plate_reader.specs.PlateQuestions.{plate_no, handed_back}

-- The bytes p are the plate of an accepted sheet and a valid choice of it.
pub record PlateOfChoice (p : List ℕ) : Type 0 where
  pub sheet : List ℕ
  pub choice : Choice
  pub accepted : sheet_no sheet ≡ 0
  pub valid : Valid (points_of sheet) choice
  pub plate : p ≡ plate_of sheet choice

-- WHAT THE THEOREM SAYS of any bytes p, `demand-two-reader` in proofs/DemandTwoReader.antt: they are accepted exactly if they are the plate
-- of an accepted sheet and a valid choice of it; that sheet and that choice's positions are the only ones; and the inside list that is
-- handed back is that choice's.
pub record ReadRight (p : List ℕ) : Type 0 where
  pub accepts : (plate_no p ≡ 0) ↔ PlateOfChoice p
  pub one-sheet : (x y : PlateOfChoice p) → x.sheet ≡ y.sheet
  pub one_choice : (x y : PlateOfChoice p) → Agree (points_of x.sheet) x.choice y.choice
  pub inside : (x : PlateOfChoice p) → handed_back p ≡ inside_below x.choice (point_count x.sheet)
