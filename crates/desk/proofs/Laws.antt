-- Facts about the bytes, verdicts and loads, for the proofs of this crate. Assumes nothing.
use mathlib.Core.Path.{◌≡◌, refl, sym, ap, ap₂, ◌∙◌}
use mathlib.Core.Bool.{true}
use mathlib.Core.List.{List}
use Rattle.std.specs.Prelude.{Option, None, Some, Result, Ok, Err}
use Rattle.std.proofs.Common.{ne_eqb}
use Prim.Native.Nat.{ℕ, ◌+◌, ◌-◌, ◌*◌, ◌≤◌}
use lib.Dec.{eqb}
use lib.ListN.{length, take, drop}
use borrow.Author.Tests.{eqb-true, le-leb}
use native.Mathlib.Omega.{arith}
use Rattle.format.specs.Sizes.{most_points, sheet_room, plate_room}
use Rattle.format.proofs.Bytes.{all_after}
use Rattle.format.specs.Padded.{padded}
use Rattle.labeling.proofs.Decide.{decide, same}
use Rattle.labeling.specs.Best.{weight, best_sum}
use Rattle.format.specs.Sheet.{point_count, points_of, sheet_no}
use Rattle.format.specs.RankList.{rank_in}
use Rattle.format.specs.Accepted.{Accepted as AcceptedSheet}
use Rattle.format.proofs.Accepted.{accepted}
use Rattle.format.specs.declared.refusal.Refusal.{Refusal}
use Rattle.format.specs.Answers.{IsNumber, number, no_of, refusal_of, outcome_of, answered}
use Rattle.format.proofs.Answers.{answered-by, number-answered, outcome-no, load-number}
use Rattle.format.specs.Plate.{choice_of, inside_below, best_choice_of, best_plate}
use Rattle.format.proofs.BestPlate.{best-chosen-sums}
use Rattle.format.proofs.InsideList.{inside-ascending}
use Rattle.clash.specs.declared.Clash.{Clash}
use Rattle.clash.specs.FirstClash.{first_clash}
use Rattle.plate_reader.specs.PlateQuestions.{inside_list}
use Rattle.format.specs.MakingQuestions.{room_no, asked_no, choosing_no, making_no, load_asked_no, load_no, workspace_after}
use Rattle.format.proofs.MakingQuestions.{none-load}
use Rattle.plate_maker.specs.Making.{Making}
use Rattle.plate_maker.proofs.MakingLaws.{refused-no, made_none, made-output}
use Rattle.desk.specs.Desk.{sum_of, list_sum, no_ranks, ranks_below, ranks_held, rank_held, held_of, with_held}
use Rattle.desk.specs.Desk.{Loading, verdict_by, verdict_at}
use Rattle.desk.proofs.SumsLaws.{inside-sum, sum_same}
use Rattle.desk.proofs.Loaded.{rank-held, plate-inside}
use Rattle.desk.specs.declared.Desk.{Desk}
use Rattle.desk.specs.declared.Held.{Held}
use Rattle.desk.specs.declared.Verdict.TheVariants.{Valid, Clash as ClashVerdict}

-- no ranks are those of no points
pub no_ranks_padded : (rank : ℕ → ℕ) → no_ranks ≡ padded most_points (ranks_below rank 0)
unfolding padded no_ranks ranks_below
no_ranks_padded rank = refl

-- THE VERDICT, by the first clash x

module _ (s : List ℕ) (rank : ℕ → ℕ) (best : ℕ) (l : List ℕ) (x : Option Clash)
    (first : x ≡ first_clash (points_of s) (choice_of (take (length l - 1) (drop 1 l)))) where
  by-clash : verdict_at s rank best l ≡ verdict_by x (list_sum rank l) best
  unfolding verdict_at
  by-clash = ap (λ y. verdict_by y (list_sum rank l) best) (sym (first ∙ ap (λ p. first_clash (points_of s) (choice_of p)) (all_after 1 l)))

  pub verdict_clash : (c : Clash) → x ≡ Some c → ClashVerdict c.first c.second c.kind ≡ verdict_at s rank best l
  verdict_clash c e = sym (by-clash ∙ ap (λ y. verdict_by y (list_sum rank l) best) e)

  pub verdict_valid : {sum shortfall : ℕ} → x ≡ None → sum ≡ sum_of rank (take (length l - 1) (drop 1 l)) → shortfall ≡ best - sum
      → Valid sum shortfall ≡ verdict_at s rank best l
  verdict_valid e c s =
      let a = c ∙ ap (sum_of rank) (all_after 1 l) in
      ap₂ Valid a (s ∙ ap (λ n. best - n) a) ∙ sym (by-clash ∙ ap (λ y. verdict_by y (list_sum rank l) best) e)

-- AN ANSWER OF ITS NUMBER k, read back

answered-ok : {A : Type 0} (k : ℕ) (x y : A) → Ok x ≡ answered k y → (k ≡ 0) × (x ≡ y)
answered-ok k x y e =
    same k 0
    (λ z. let q : Ok x ≡ Ok y = rw z at e in (z, cc))
    (λ ne. let q : Ok x ≡ Err (refusal_of k) = rw (ne_eqb k 0 ne) at e in cc)

answered-err : {A : Type 0} (k : ℕ) (x : Refusal) (y : A) → IsNumber k → Err x ≡ answered k y → number x ≡ k
answered-err k x y n e = ap no_of e ∙ number-answered k y n

-- LOADING, from the promise of make_with

-- the largest plate has room, so 21 never comes
making-load : (s : List ℕ) (l : Option (List ℕ)) (cells : ℕ) → making_no s l plate_room cells ≡ load_no s l cells
unfolding making_no choosing_no asked_no room_no load_asked_no load_no
making-load s l cells =
    decide (eqb (sheet_no s) 0)
    (λ e.
    let few : point_count s ≤ 32 = (accepted s (eqb-true _ _ e)).proper.few in
    rw (e, le-leb (12 + 8 * point_count s) plate_room (omega arith)) refl)
    (λ e. rw e refl)

-- what a load of s with the list l puts into the desk
abbrev pub held-after : List ℕ → Option (List ℕ) → Held
held-after s l = held_of s (ranks_held s l) (best_sum (points_of s) (rank_in l))

module _ (s : List ℕ) (l : Option (List ℕ)) (o w o' w' : List ℕ) (answer : Result ℕ Refusal) (room : length o ≡ plate_room)
    (m : Making s l o w answer o' w') where
  -- the questions of the making are the load's
  same-questions : making_no s l (length o) (length w) ≡ load_no s l (length w)
  same-questions = ap (λ k. making_no s l k (length w)) room ∙ making-load s l (length w)

  pub load_workspace : w' ≡ workspace_after (load_no s l (length w)) w
  load_workspace = m.workspace ∙ ap (λ k. workspace_after k w) same-questions

  pub load_refused : (x : Refusal) → answer ≡ Err x → Err x ≡ answered (load_no s l (length w)) (held-after s l)
  load_refused x e =
      let n : Making s l o w (Err x) o' w' = rw e at m in
      answered-by (Err x) (load_no s l (length w)) (held-after s l) (refused-no n ∙ same-questions) tt

  made-accepted : (r : ℕ) → answer ≡ Ok r → load_no s l (length w) ≡ 0
  made-accepted r e = let n : Making s l o w (Ok r) o' w' = rw e at m in sym same-questions ∙ made_none n

  made-sheet : (r : ℕ) → answer ≡ Ok r → AcceptedSheet s
  made-sheet r e = ((none-load s l (length w)).is (made-accepted r e)).0.0.0

  pub made-short : (r : ℕ) → answer ≡ Ok r → length s ≤ sheet_room
  made-short r e = let a = made-sheet r e in let l = a.long in let f = a.proper.few in omega arith

  pub made-few : (r : ℕ) → answer ≡ Ok r → point_count s ≤ most_points
  made-few r e = (made-sheet r e).proper.few

  -- the best plate stands at the start of the output, and the sum of its inside positions is the best
  made-sum : (r : ℕ) → answer ≡ Ok r → sum_of (rank_held (ranks_held s l)) (inside_list o') ≡ best_sum (points_of s) (rank_in l)
  unfolding best_plate weight
  made-sum r e =
      let n : Making s l o w (Ok r) o' w' = rw e at m in
      let a = made-sheet r e in
      let S = best_choice_of s l in
      ap (sum_of (rank_held (ranks_held s l))) (ap inside_list (made-output n) ∙ plate-inside s S a _)
      ∙ sum_same (rank_held (ranks_held s l)) (rank_in l) (point_count s) (inside_below S (point_count s))
      (inside-ascending S (point_count s) (point_count s) (omega arith)) (rank-held s l)
      ∙ inside-sum (rank_in l) S (point_count s)
      ∙ best-chosen-sums s (rank_in l) a ((none-load s l (length w)).is (made-accepted r e)).1.0

  pub load-made : (sheet ranks : List ℕ) (r best : ℕ) →
      answer ≡ Ok r →
      ranks ≡ ranks_held s l →
      best ≡ sum_of (rank_held ranks) (inside_list o') →
      sheet ≡ padded sheet_room s →
      Ok (record { sheet = sheet; ranks = ranks; loaded = true; spare = 0; best = best })
      ≡ answered (load_no s l (length w)) (held-after s l)
  load-made sheet ranks r best h a q f =
      let b : best ≡ best_sum (points_of s) (rank_in l) = q ∙ (ap (λ x. sum_of (rank_held x) (inside_list o')) a ∙ made-sum r h) in
      rw (made-accepted r h, f, b, a) refl

-- THE DESK AFTER A LOAD, by what the load puts into it

module _ (d : Desk) (s : List ℕ) (l : Option (List ℕ)) (w w' : List ℕ) (answer : Result Held Refusal)
    (held : answer ≡ answered (load_no s l (length w)) (held-after s l)) (z : w' ≡ workspace_after (load_no s l (length w)) w) where
  pub load_accepted : (h : Held) → answer ≡ Ok h → Loading d s l w (record { desk = with_held d h; answer = Ok tt }) w'
  load_accepted h e =
      let q = answered-ok (load_no s l (length w)) h (held-after s l) (sym e ∙ held) in
      record { outcome = rw q.0 refl; desk = ap (with_held d) q.1; workspace = z ∙ ap (λ k. workspace_after k w) q.0 }

  pub load_not : (x : Refusal) → answer ≡ Err x → Loading d s l w (record { desk = d; answer = Err x }) w'
  load_not x e =
      let q = answered-err (load_no s l (length w)) x (held-after s l) (load-number s l (length w)) (sym e ∙ held) in
      record {
        outcome = outcome-no {A = Unit {0}} (Err x) ∙ ap outcome_of q;
        desk = refl;
        workspace = z ∙ ap (λ k. workspace_after k w) (sym q);
      }
