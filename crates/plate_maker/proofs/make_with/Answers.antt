-- `plate_maker::make_with` meets its contract. Assumes nothing.
use mathlib.Core.Path.{◌≡◌, refl, sym, ap, ◌∙◌}
use lib.ListN.{length}
use Rattle.std.specs.Prelude.{Bool, List, ℕ, Option, Result, IfOk}
use Rattle.std.proofs.lemmas.Result.{err_from_is_err_and}
use Rattle.format.specs.declared.refusal.Refusal.{Refusal}
use Rattle.format.specs.Answers.{no_of}
use Rattle.format.specs.RankList.{rank_in}
use Rattle.format.proofs.Accepted.{none-sheet}
use Rattle.format.specs.MakingQuestions.{output_fits, choosing_no, making_no, workspace_after}
use Rattle.format.proofs.MakingQuestions.{none-making}
use Rattle.format.specs.Plate.{best_choice_of, best_plate}
use Rattle.optimum.specs.declared.BestChoice.{BestChoice}
use Rattle.optimum.specs.Choosing.{split_of, chosen_of, Choosing}
use Rattle.optimum.proofs.ChoosingLaws.{chosen-no, chosen-split}
use Rattle.plate_maker.proofs.MakingLaws.{refused-making, made-making}
use Rattle.plate_maker.proofs.make_with.Goals as goal

-- where `fits` answers 21, what is chosen has the number of the making's first no
module _ (s : List ℕ) (l : Option (List ℕ)) (fits : Bool) (o w : List ℕ) (r : Result BestChoice Refusal)
    (fit : fits ≡ output_fits s (length o)) (answer : r ≡ chosen_of s (rank_in l) (choosing_no s l fits (length w))) where
  same-no : choosing_no s l fits (length w) ≡ making_no s l (length o) (length w)
  unfolding making_no
  same-no = ap (λ b. choosing_no s l b (length w)) fit

  chosen : Choosing s l fits w r (workspace_after (choosing_no s l fits (length w)) w)
  chosen = record { answer = answer; workspace = refl }

  first-no : no_of r ≡ making_no s l (length o) (length w)
  first-no = chosen-no chosen ∙ same-no

  split : IfOk r (λ x. x ≡ split_of s (best_choice_of s l))
  split = chosen-split chosen

pub returns-in_err-choice : goal.returns-in_err-choice
returns-in_err-choice c =
    let e = c.in_err-choice.ensures in
    let fit = c.output_fits-fits.ensures in
    let p = err_from_is_err_and c.from_residual.result c.from_residual.ensures.1 in
    rw (p.1, p.2)
    (refused-making _ _ _ _ _ _ (first-no _ _ _ _ _ _ fit e.answer) (rw (← same-no _ _ _ _ _ _ fit e.answer) e.workspace))

pub write_split-requires : goal.write_split-requires
write_split-requires c =
    let e = c.in_ok-choice.ensures in
    let fit = c.output_fits-fits.ensures in
    let f = (none-making _ _ _ _).is (sym (first-no _ _ _ _ _ _ fit e.answer)) in
    ((none-sheet _).of f.0.0.0, (_, split _ _ _ _ _ _ fit e.answer), f.0.0.1.0)

pub returns : goal.returns
unfolding best_plate
returns c =
    let e = c.in_ok-choice.ensures in
    let fit = c.output_fits-fits.ensures in
    let best = c.write_split.ensures _ (split _ _ _ _ _ _ fit e.answer) in
    made-making _ _ _ _ _ _ _ (sym (first-no _ _ _ _ _ _ fit e.answer)) (rw (← same-no _ _ _ _ _ _ fit e.answer) e.workspace) best.0 best.1
