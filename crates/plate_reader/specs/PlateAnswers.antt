-- For each case of read_plate's answer, document 01's number and values. Assumes nothing.
use Rattle.std.specs.Prelude.{Bool, true, false, cond, not, List, ℕ, eqb, Result, Ok, Err}
use Rattle.format.specs.declared.refusal.Refusal.{Refusal}
use Rattle.format.specs.Answers.{number}
use Rattle.plate_reader.specs.PlateQuestions.{inside_count, plate_no}

-- What an answer says: whether the plate is refused, the number of the first no (0 where nothing is refused), and the inside count (0
-- where the plate is refused).
pub record PlateOutcome : Type 0 where
  pub refused : Bool
  pub no : ℕ
  pub inside : ℕ

-- The outcome of reading a plate.
abbrev pub plate_outcome_of : List ℕ → PlateOutcome
plate_outcome_of p = record {
  refused = not (eqb (plate_no p) 0);
  no = plate_no p;
  inside = cond (eqb (plate_no p) 0) (inside_count p) 0;
}

-- The cases of read_plate's answer.
abbrev pub plate_outcome : Result ℕ Refusal → PlateOutcome
plate_outcome (Ok i) = record { refused = false; no = 0; inside = i }
plate_outcome (Err r) = record { refused = true; no = number r; inside = 0 }
