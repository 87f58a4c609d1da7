-- The recovered choice is the best choice of the sheet, and its two lists are those that are written; and where the value is 0, no choice
-- is valid. Assumes nothing.
use Rattle.std.specs.Prelude.{◌≡◌, ℕ, suc, ◌≤◌, Bool, true, false, cond, List, length, replicate, ◌≢◌, refl, Option, Result, Ok, Err}
use Rattle.std.proofs.Math.Path.{ap, sym}
use Rattle.std.proofs.Common.{◌∙◌, arith}
use Rattle.std.proofs.lemmas.List.{length-replicate, get_or-replicate}
use Rattle.labeling.specs.Points.{outside}
use Rattle.labeling.proofs.Pixels.{one-outside-a-row}
use Rattle.labeling.proofs.Decide.{decide}
use Rattle.labeling.specs.Best.{Best, Agree, Preferred, best, best_choice, feasible_b}
use Rattle.labeling.proofs.Agree.{outside-agree}
use Rattle.labeling.proofs.Greatest.{feasible-best, best-feasible, dec-feasible}
use Rattle.recurrence.proofs.TieBreak.{broken-preferred}
use Rattle.recurrence.specs.Recurrence.{recovered}
use Rattle.recurrence.specs.Optimum.{optimum, chosen}
use Rattle.recurrence.specs.Positions.{SameChoice}
use Rattle.recurrence.proofs.Positions.{best-optimum, chosen-best}
use Rattle.format.specs.Sheet.{point_count, points_of}
use Rattle.format.specs.Plate.{inside_below}
use Rattle.format.specs.RankList.{rank_in}
use Rattle.format.proofs.PlateAgree.{inside-agree}
use Rattle.format.proofs.BestPlate.{preferred-agrees}
use Rattle.format.specs.Answers.{number}
use Rattle.format.specs.declared.refusal.Refusal.{Refusal}
use Rattle.format.specs.declared.refusal.Refusal.TheVariants.{NoValidChoice}
use Rattle.format.proofs.Answers.{number-not-none, answered-by}
use Rattle.format.specs.Accepted.{Accepted}
use Rattle.format.proofs.Asking.{then-later, then-first}
use Rattle.format.specs.MakingQuestions.{asked_no, choice_no, choosing_no, workspace_after}
use Rattle.format.proofs.MakingQuestions.{none-choice, zeroed-0, zeroed-61, untouched}
use Rattle.format.proofs.SharedRows.{asked-other}
use Rattle.orders.specs.Arrays.{heights_of, position_at}
use Rattle.orders.specs.Given.{weight_of}
use Rattle.orders.proofs.GivenLaws.{weight-breaks, permits}
use Rattle.orders.specs.Layout.{field_cells}
use Rattle.optimum.specs.Table.{inside_flag, Blank, Solved}
use Rattle.optimum.specs.Prepared.{Prepared}
use Rattle.optimum.specs.Split.{flagged, outside_down, outside_positions}
use Rattle.optimum.proofs.Outside.{down-outside-points}
use Rattle.optimum.specs.Choosing.{listed, split_of, chosen_of, Choosing}
use Rattle.optimum.specs.declared.BestChoice.{BestChoice}
use Rattle.optimum.specs.Chosen.{ByPosition, TwoLists}

-- no flag is set
pub none-blank : Blank (replicate field_cells false)
none-blank = record { long = length-replicate {A = Bool} field_cells false; zero = λ i l. get_or-replicate {A = Bool} field_cells i false false l }

-- a flag is true exactly where it was set by a true test
flag_is : (b : Bool) → cond b inside_flag false ≡ b
flag_is true = refl
flag_is false = refl

-- The value is 0 exactly if no choice is valid.
module _ (rank : ℕ → ℕ) (s heights : List ℕ) (flags : List Bool) {k : ℕ} (a : Accepted s) (p : Prepared rank s heights)
    (solved : Solved (heights_of heights) flags k) where
  best-value : best (points_of s) (weight_of rank) ≡ k
  unfolding optimum
  best-value = best-optimum p.arranged p.packed.sorted (permits s) ∙ sym solved.best

  pub none-valid : k ≡ 0 → 61 ≡ choice_no s
  none-valid z =
      decide (feasible_b (points_of s))
      (λ e.
      let f = (dec-feasible (points_of s) a.proper.label-width.0).is e in
      absurd (omega (arith, best-value, feasible-best (points_of s) (weight_of rank) a.proper.label-width.0 f)))
      (λ e. rw e)

  pub some-valid : (k ≢ 0) → 0 ≡ choice_no s
  some-valid ne =
      let l : 1 ≤ best (points_of s) (weight_of rank) = omega (arith, best-value) in
      sym ((none-choice s a).of (best-feasible (points_of s) (weight_of rank) a.proper.label-width.0 l, tt))

module _ (rank : ℕ → ℕ) (s heights : List ℕ) (flags choice : List Bool) {k : ℕ} (a : Accepted s) (p : Prepared rank s heights)
    (solved : Solved (heights_of heights) flags k) (some : k ≡ 0 → ⊥) (by : ByPosition heights flags choice) where
  has-choice : 1 ≤ optimum (heights_of heights)
  unfolding optimum
  has-choice = omega (arith, solved.best)

  -- the choice by position is the recovered choice
  choice-chosen : SameChoice (heights_of heights) (position_at heights) (flagged choice) (chosen (heights_of heights))
  unfolding chosen optimum
  choice-chosen = record {
    at = λ i q.
        by.at i q ∙ solved.flagged (omega (arith, solved.best, has-choice)) i q
        ∙ flag_is (recovered (heights_of heights) (heights_of heights).n 0 (suc (heights_of heights).n) 0 i);
  }

  -- IT IS A BEST CHOICE by the weights, SO IT IS THE PREFERRED ONE by the ranks
  choice-best : Best (points_of s) (weight_of rank) (flagged choice)
  choice-best = (chosen-best p.arranged p.packed.sorted (permits s) has-choice (flagged choice) choice-chosen).0

  choice-preferred : Preferred (points_of s) rank (flagged choice)
  choice-preferred = broken-preferred (points_of s) rank a.proper.few (flagged choice) (rw (weight-breaks rank) at choice-best)

  agreed : Agree (points_of s) (flagged choice) (best_choice (points_of s) rank)
  agreed = preferred-agrees s rank a (flagged choice, choice-best.valid) (flagged choice) choice-preferred

  listed-inside : inside_below (flagged choice) (point_count s) ≡ inside_below (best_choice (points_of s) rank) (point_count s)
  listed-inside = inside-agree (flagged choice) (best_choice (points_of s) rank) (point_count s) agreed.at

  -- the outside positions are the outside points from the highest row down: in a valid choice no two of them are in one row
  listed-outside : outside_positions heights choice ≡ outside (points_of s) (best_choice (points_of s) rank)
  unfolding outside
  listed-outside =
      ap (outside_down (flagged choice) (position_at heights)) p.arranged.n
      ∙ down-outside-points p.arranged p.packed.sorted (flagged choice)
      (λ i j. one-outside-a-row (points_of s) (flagged choice) i j choice-best.valid)
      ∙ outside-agree (points_of s) (flagged choice) (best_choice (points_of s) rank) (point_count s) agreed.at

  -- AND ITS LISTS ARE THE SPLIT
  pub lists-chosen : (r : BestChoice) → TwoLists (point_count s) heights choice r → Ok r ≡ chosen_of s rank (choice_no s)
  lists-chosen r t = rw (← some-valid rank s heights flags a p solved some) (ap Ok split)
    where
      split : r ≡ split_of s (best_choice (points_of s) rank)
      split = λ i. record { inside = (t.inside ∙ ap listed listed-inside) i; outside = (t.outside ∙ ap listed listed-outside) i }

-- nothing is chosen where no choice is valid
pub none-chosen : (rank : ℕ → ℕ) (s : List ℕ) → 61 ≡ choice_no s → Err NoValidChoice ≡ chosen_of s rank (choice_no s)
none-chosen rank s q = answered-by (Err NoValidChoice) (choice_no s) _ q tt

-- THE PROMISE, where a question before 61 is answered no
pub refused-choosing : (s : List ℕ) (l : Option (List ℕ)) (fits : Bool) (w : List ℕ) (r : Refusal)
    → number r ≡ asked_no s l fits (length w) → Choosing s l fits w (Err r) w
unfolding choosing_no
refused-choosing s l fits w r e =
    let ne = number-not-none r in
    let no : number r ≡ choosing_no s l fits (length w) =
    then-first (asked_no s l fits (length w)) (choice_no s) (number r) (λ z. ne (e ∙ z)) e in
    record {
      answer = answered-by (Err r) (choosing_no s l fits (length w)) _ no tt;
      workspace = rw (← no) (sym (untouched (number r) w ne (λ z. asked-other s l fits (length w) (sym e ∙ z))));
    }

-- and where none is
pub chosen-choosing : (s : List ℕ) (l : Option (List ℕ)) (fits : Bool) (w w' : List ℕ) (r : Result BestChoice Refusal)
    → asked_no s l fits (length w) ≡ 0 → w' ≡ replicate (length w) 0 → r ≡ chosen_of s (rank_in l) (choice_no s) → Choosing s l fits w r w'
unfolding choosing_no
chosen-choosing s l fits w w' r e f c =
    let no : choice_no s ≡ choosing_no s l fits (length w) = then-later (asked_no s l fits (length w)) (choice_no s) (choice_no s) e refl in
    record { answer = rw (← no) c; workspace = rw (← no) (f ∙ sym zeroed) }
  where
    zeroed : workspace_after (choice_no s) w ≡ replicate (length w) 0
    zeroed = decide (feasible_b (points_of s)) (λ t. zeroed-0 (choice_no s) w (rw t)) (λ t. zeroed-61 (choice_no s) w (rw t))
