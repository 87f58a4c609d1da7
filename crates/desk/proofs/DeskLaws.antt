-- The promises of a load and a mark in their cases, and that each leaves one result. Assumes nothing.
use Rattle.std.specs.Prelude.{◌≡◌, refl, true, false, ◌↔◌, Bool, List, ℕ, zero, suc, length, Option, None, is_some, unwrap_or, Ok, Err}
use Rattle.std.specs.Bool.{then_some}
use Rattle.std.proofs.Common.{sym, ◌∙◌}
use Rattle.std.proofs.Math.Path.{ap}
use borrow.Author.Tests.{eq-eqb, ne_eqb}
use Rattle.labeling.proofs.Decide.{same}
use Rattle.format.specs.declared.refusal.Refusal.TheVariants.{ListLength, ListPosition, ListOrder, NoSheet, NoNumberLeft}
use Rattle.format.specs.Answers.{IsNumber, number, refusal_of, no_of, outcome, outcome_of}
use Rattle.format.proofs.Answers.{number-answered, outcome-answered, no-question-number, ask-number, then-number, load-number}
use Rattle.format.specs.MakingQuestions.{workspace_after, load_no}
use Rattle.mark_questions.specs.MarkQuestions.{positions, list_count, count_right, above_before, entry_no, entries_no, list_no, loaded_list_no, number_left, mark_no}
use Rattle.desk.specs.declared.After.{After}
use Rattle.desk.specs.declared.Desk.{Desk}
use Rattle.desk.specs.Desk.{LoadAnswer, Loading, loaded_desk, load_result, load_answer_of, load_of, verdict_of, next_number, first_no}
use Rattle.desk.specs.Desk.{MarkAnswer, mark_outcome, mark_outcome_of, Marking, marked_desk, mark_result, mark_answer_of, mark_of}
use Rattle.desk.proofs.Outcomes.{load-outcome-fixes, mark-outcome-fixes}

-- LOAD

module _ (d : Desk) (s : List ℕ) (l : Option (List ℕ)) (w : List ℕ) where
  pub load-yes : load_no s l (length w) ≡ 0 → load_of d s l w ≡ load_result d s l (Ok tt)
  unfolding load_of
  load-yes e = ap (λ k. load_result d s l (load_answer_of k)) e

  pub load-no : (load_no s l (length w) ≡ 0 → ⊥) → load_of d s l w ≡ load_result d s l (Err (refusal_of (load_no s l (length w))))
  unfolding load_of
  load-no ne = rw (ne_eqb (load_no s l (length w)) 0 ne)

  -- the answer has the first no's number
  pub load-number-of : no_of (load_of d s l w).answer ≡ load_no s l (length w)
  unfolding load_of
  load-number-of = number-answered (load_no s l (length w)) tt (load-number s l (length w))

  pub load-outcome-of : outcome (load_of d s l w).answer ≡ outcome_of (load_no s l (length w))
  unfolding load_of
  load-outcome-of = outcome-answered (load_no s l (length w)) tt (load-number s l (length w))

-- the outcome where the first no is k
load-outcome : (k : ℕ) → IsNumber k → outcome (load_answer_of k) ≡ outcome_of k
load-outcome k n = outcome-answered k tt n

-- THE PROMISE LEAVES ONE RESULT
pub loading-exactly : (d : Desk) (s : List ℕ) (l : Option (List ℕ)) (w w' : List ℕ) (r : After LoadAnswer)
    → Loading d s l w r w' ↔ ((r ≡ load_of d s l w) × (w' ≡ workspace_after (no_of r.answer) w))
unfolding load_of
loading-exactly d s l w w' r = (
  λ m.
      let a : r.answer ≡ load_answer_of (load_no s l (length w)) =
      load-outcome-fixes _ _ (m.outcome ∙ sym (load-outcome-of d s l w)) in
      ((λ i. record { desk = (m.desk ∙ ap (λ x. loaded_desk x d s l) a) i; answer = a i }), m.workspace),
  λ e. record {
    outcome = ap (λ (x : After LoadAnswer). outcome x.answer) e.0 ∙ load-outcome-of d s l w;
    desk = ap (λ (x : After LoadAnswer). x.desk) e.0 ∙ ap (λ (x : After LoadAnswer). loaded_desk x.answer d s l) (sym e.0);
    workspace = e.1;
  },
)

-- MARK

-- each question of a mark has the number of a refusal
entry-number : (n : ℕ) (p : List ℕ) (k : ℕ) → IsNumber (entry_no n p k)
unfolding entry_no
entry-number n p k = ask-number _ ListPosition (ask-number (above_before p k) ListOrder no-question-number)

entries-number : (n : ℕ) (p : List ℕ) (m : ℕ) → IsNumber (entries_no n p m)
unfolding entries_no
entries-number n p zero = no-question-number
entries-number n p (suc m) = then-number _ _ (entries-number n p m) (entry-number n p m)

pub mark-number : (loaded : Bool) (n last : ℕ) (l : List ℕ) → IsNumber (mark_no loaded n last l)
unfolding mark_no loaded_list_no list_no
mark-number loaded n last l =
    then-number _ _
    (ask-number loaded NoSheet (ask-number (count_right l) ListLength (entries-number n (positions l) (list_count l))))
    (ask-number (number_left last) NoNumberLeft no-question-number)

-- where no sheet is loaded, its points mean nothing
pub points_asked : (loaded : Bool) (n last : ℕ) (l : List ℕ)
    → mark_no (is_some (then_some loaded n)) (unwrap_or (then_some loaded n) 0) last l ≡ mark_no loaded n last l
unfolding mark_no loaded_list_no
points_asked true n last l = refl
points_asked false n last l = refl

module _ (d : Desk) (l : List ℕ) (k : ℕ) (first : first_no d l ≡ k) where
  pub mark-yes : k ≡ 0 → mark_of d l ≡ mark_result d (Ok (record { number = next_number d.last; verdict = verdict_of d l }))
  unfolding mark_of
  mark-yes e = rw (first, eq-eqb k 0 e)

  pub mark-no : (k ≡ 0 → ⊥) → mark_of d l ≡ mark_result d (Err (refusal_of k))
  unfolding mark_of
  mark-no ne = rw (first, ne_eqb k 0 ne)

-- the outcome where the first no is k
mark-outcome : (d : Desk) (l : List ℕ) (k : ℕ) → IsNumber k → mark_outcome (mark_answer_of d l k) ≡ mark_outcome_of d l k
mark-outcome d l k n =
    same k 0 (λ e. rw e) (λ ne.
    let z = ne_eqb k 0 ne in
    let e : number (refusal_of k) ≡ k = rw z at n.is in
    rw z (ap (λ j. record { refused = true; no = j; number = None; verdict = None }) e))

-- the answer says what the first no says
pub mark-outcome-of : (d : Desk) (l : List ℕ) → mark_outcome (mark_of d l).answer ≡ mark_outcome_of d l (first_no d l)
unfolding mark_of
mark-outcome-of d l = mark-outcome d l (first_no d l) (mark-number _ _ _ l)

-- THE PROMISE LEAVES ONE RESULT
pub marking-exactly : (d : Desk) (l : List ℕ) (r : After MarkAnswer) → Marking d l r ↔ (r ≡ mark_of d l)
unfolding mark_of
marking-exactly d l r = (
  λ m.
      let a : r.answer ≡ mark_answer_of d l (first_no d l) = mark-outcome-fixes _ _ (m.outcome ∙ sym (mark-outcome-of d l)) in
      λ i. record { desk = (m.desk ∙ ap (λ x. marked_desk x d) a) i; answer = a i },
  λ e. record {
    outcome = ap (λ (x : After MarkAnswer). mark_outcome x.answer) e ∙ mark-outcome-of d l;
    desk = ap (λ (x : After MarkAnswer). x.desk) e ∙ ap (λ (x : After MarkAnswer). marked_desk x.answer d) (sym e);
  },
)

-- the desk after this answer
pub mark_answered : (d : Desk) (l : List ℕ) (a : MarkAnswer) → a ≡ mark_answer_of d l (first_no d l) → Marking d l (mark_result d a)
mark_answered d l a e = record { outcome = ap mark_outcome e ∙ mark-outcome d l (first_no d l) (mark-number _ _ _ l); desk = refl }
