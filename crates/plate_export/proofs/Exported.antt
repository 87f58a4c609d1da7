-- The theorems on the definitions of specs/Exported.antt. Assumes nothing.
use Rattle.std.specs.Prelude.{◌≡◌, refl, false, List, ℕ, eqb, length, Option, Result, Ok, Err}
use Rattle.std.proofs.Common.{sym, ap, ◌∙◌}
use Rattle.std.proofs.lemmas.Bool.{not-true}
use Rattle.format.specs.declared.refusal.Refusal.{Refusal}
use Rattle.format.specs.Answers.{number}
use Rattle.plate_reader.specs.PlateQuestions.{inside_start, plate_no, handed_back_at}
use Rattle.plate_reader.specs.PlateAnswers.{plate_outcome, plate_outcome_of}
use Rattle.format.specs.MakingQuestions.{making_no}
use Rattle.plate_maker.specs.Making.{make_outcome_of, Making}
use Rattle.plate_maker.proofs.MakingLaws.{making-workspace, made-output}
use Rattle.plate_export.specs.Exported.{make_reply, MakingExported, ReadingExported}

-- FROM READ_PLATE'S CONTRACT

pub exported-accepted : (p : List ℕ) (a : Result ℕ Refusal) (i start count : ℕ) → plate_outcome a ≡ plate_outcome_of p → a ≡ Ok i
    → start ≡ inside_start p → count ≡ i → ReadingExported p (record { number = 0; spare = 0; inside_start = start; inside_count = count })
unfolding handed_back_at
exported-accepted p a i start count e q s c =
    let f : plate_outcome (Ok i) ≡ plate_outcome_of p = ap plate_outcome (sym q) ∙ e in
    let z : 0 ≡ plate_no p = λ d. (f d).no in
    record { first-no = z; spare = refl; at = rw (← z) s; inside = c ∙ (λ d. (f d).inside) }

pub exported-refused-plate : (p : List ℕ) (a : Result ℕ Refusal) (r : Refusal) (n : ℕ) → plate_outcome a ≡ plate_outcome_of p → a ≡ Err r
    → n ≡ number r → ReadingExported p (record { number = n; spare = 0; inside_start = 0; inside_count = 0 })
unfolding handed_back_at
exported-refused-plate p a r n e q c =
    let f : plate_outcome (Err r) ≡ plate_outcome_of p = ap plate_outcome (sym q) ∙ e in
    let g : eqb (plate_no p) 0 ≡ false = not-true _ (sym (λ d. (f d).refused)) in
    record { first-no = c ∙ (λ d. (f d).no); spare = refl; at = rw g; inside = λ d. (f d).inside }

-- FROM MAKE'S PROMISE

pub exported-making : {s : List ℕ} {l : Option (List ℕ)} {o w o' w' : List ℕ} (a : Result ℕ Refusal) → Making s l o w a o' w'
    → MakingExported s l o w (make_reply a) o' w'
exported-making {s} {l} {o} {w} (Ok k) m =
    let z : 0 ≡ making_no s l (length o) (length w) = λ i. (m.outcome i).no in
    record {
      first-no = z;
      spare = refl;
      length = (λ i. (m.outcome i).written) ∙ ap (λ (n : ℕ). (make_outcome_of s l n).written) (sym z);
      workspace = making-workspace m;
      output = made-output m;
    }
exported-making {s} {l} {o} {w} (Err r) m =
    let z : number r ≡ making_no s l (length o) (length w) = λ i. (m.outcome i).no in
    record {
      first-no = z;
      spare = refl;
      length = (λ i. (m.outcome i).written) ∙ ap (λ (n : ℕ). (make_outcome_of s l n).written) (sym z);
      workspace = making-workspace m;
      output = rw z m.output;
    }
