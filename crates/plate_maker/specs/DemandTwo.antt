-- DEMAND 2, whole: "A plate repeats its sheet's bytes, splits the points into inside and outside, and puts no pixel under two marks,
-- margin included. The plate reader accepts just the plates that meet this with the margin columns of document 01, and reads each made
-- plate back to the same split." Document 02 (a) also asks "that no inside label leaves the map": Valid says both. The margin
-- columns are those of document 02 (b). Assumes nothing.
use Rattle.std.specs.Prelude.{◌≡◌, List, ℕ, take, Option, Ok}
use Rattle.labeling.specs.Points.{Choice}
use Rattle.labeling.specs.Marks.{Valid}
use Rattle.format.specs.Sheet.{point_count, points_of}
use Rattle.format.specs.Plate.{inside_below, plate_of}
use Rattle.plate_reader.specs.PlateQuestions.{plate_no, handed_back}
use Rattle.plate_reader.specs.DemandTwoReader.{ReadRight}
use Rattle.plate_maker.specs.Making.{Making}

-- A plate p made from the sheet s: it is the plate of s and a valid choice, it is accepted, and the inside list that the reader hands
-- back is that choice's.
pub record MadeRight (s p : List ℕ) : Type 0 where
  pub choice : Choice
  pub valid : Valid (points_of s) choice
  pub plate : p ≡ plate_of s choice
  pub accepted : plate_no p ≡ 0
  pub inside : handed_back p ≡ inside_below choice (point_count s)

-- WHAT THE THEOREM SAYS, `demand-two` in proofs/DemandTwo.antt. Of any bytes the reader accepts just the plates of accepted sheets and
-- valid choices, each with one sheet and one split (plate_reader's DemandTwoReader.antt); and every plate that make and make_ranked can put
-- into their output, by their contract, is read back to the same split.
pub record DemandTwo : Type 0 where
  pub reads : (p : List ℕ) → ReadRight p
  pub made : (s : List ℕ) (r : Option (List ℕ)) (o w o' w' : List ℕ) (k : ℕ) → Making s r o w (Ok k) o' w' → MadeRight s (take k o')
