-- What the exported calls answer, in the definitions of the calls inside. Assumes nothing.
use Rattle.std.specs.Prelude.{◌≡◌, List, ℕ, length, Option, Result, Ok, Err}
use Rattle.format.specs.declared.refusal.Refusal.{Refusal}
use Rattle.format.specs.Answers.{number}
use Rattle.plate_reader.specs.PlateQuestions.{plate_no, handed_back_at}
use Rattle.plate_reader.specs.PlateAnswers.{plate_outcome_of}
use Rattle.format.specs.MakingQuestions.{making_no, workspace_after, output_after}
use Rattle.plate_maker.specs.Making.{make_outcome_of}
use Rattle.plate_export.specs.declared.MakeResult.{MakeResult}
use Rattle.plate_export.specs.declared.ReadResult.{ReadResult}

-- A making's answer as numbers.
abbrev pub make_reply : Result ℕ Refusal → MakeResult
make_reply (Ok written) = record { number = 0; spare = 0; written = written }
make_reply (Err r) = record { number = number r; spare = 0; written = 0 }

-- plate_make and plate_make_ranked: the promise of make and make_ranked, with the answer as the numbers of its outcome. l is the rank list,
-- or none.
pub record MakingExported (s : List ℕ) (l : Option (List ℕ)) (o w : List ℕ) (r : MakeResult) (o' w' : List ℕ) : Type 0 where
  pub first-no : r.number ≡ making_no s l (length o) (length w)
  pub spare : r.spare ≡ 0
  pub length : r.written ≡ (make_outcome_of s l r.number).written
  pub workspace : w' ≡ workspace_after r.number w
  pub output : o' ≡ output_after r.number s l o

-- plate_read: the first no, and the stretch that the reader hands back.
pub record ReadingExported (p : List ℕ) (r : ReadResult) : Type 0 where
  pub first-no : r.number ≡ plate_no p
  pub spare : r.spare ≡ 0
  pub at : r.inside_start ≡ handed_back_at p
  pub inside : r.inside_count ≡ (plate_outcome_of p).inside
