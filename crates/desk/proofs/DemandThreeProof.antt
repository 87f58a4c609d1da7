-- DEMAND 3, PROVED: the desk after any calls is tied to document 01's words, and so is each answer. The last theorem, demand-three, is that
-- every sequence of calls has what DemandThree.antt claims. Assumes nothing.
use Rattle.std.specs.Prelude.{◌≡◌, true, false, cond, List, [], ◌∷◌, ◌++◌, ℕ, suc, ◌+◌, ◌*◌, ◌≤◌, ◌<◌, eqb, length, take, replicate, Option, None, Some, is_some, Result, Ok, Err}
use Rattle.std.proofs.Math.Path.{refl, sym}
use Rattle.std.proofs.Common.{ap, ap₂, ◌∙◌, true≢false, append-nil, length-append, eqb-true, ne_eqb, arith}
use Rattle.std.proofs.lemmas.List.{length-replicate}
use Rattle.std.proofs.lemmas.Bool.{eqb-false}
use Rattle.format.specs.Sizes.{workspace_cells}
use Rattle.labeling.specs.Points.{Choice}
use Rattle.labeling.specs.Marks.{Valid}
use Rattle.labeling.specs.Best.{weight, Preferred, Feasible, best_sum}
use Rattle.labeling.proofs.Agree.{valid-agree}
use Rattle.labeling.proofs.Greatest.{best-sums, best-sum-most, best-sum-reached}
use Rattle.labeling.proofs.Decide.{not-both, decide}
use Rattle.format.specs.Sheet.{point_count, points_of}
use Rattle.format.specs.Accepted.{UpTo, Accepted}
use Rattle.format.specs.Plate.{choice_of, inside_below, best_choice_of, best_plate}
use Rattle.format.specs.declared.refusal.Refusal.{Refusal}
use Rattle.format.specs.Answers.{no_of, outcome_of}
use Rattle.format.specs.RankList.{rank_in}
use Rattle.format.specs.RightRanks.{RightRanks}
use Rattle.format.proofs.RightRanks.{ranks-up-to}
use Rattle.clash.specs.declared.Clash.{Clash}
use Rattle.clash.specs.FirstClash.{is_clash, between, first_clash}
use Rattle.clash.specs.ClashPixels.{FirstClashRight}
use Rattle.clash.proofs.ClashPixels.{first-clash-right}
use Rattle.format.proofs.InsideList.{choice-of-list, inside-ascending}
use Rattle.format.specs.MakingQuestions.{making_no, workspace_after, output_after, load_no}
use Rattle.format.proofs.MakingQuestions.{none-making, none-load, zeroed-61, untouched}
use Rattle.plate_maker.specs.Making.{make_outcome, Making}
use Rattle.plate_maker.proofs.MakingLaws.{made-making, made-preferred, made-start}
use Rattle.mark_questions.specs.MarkQuestions.{positions, loaded_list_no, mark_no}
use Rattle.mark_questions.specs.Lists.{Listed}
use Rattle.mark_questions.proofs.Lists.{none_list, choice-listed, none-mark}
use Rattle.desk.specs.Desk.{sum_of, list_sum, no_sheet, nothing_held, ranks_held, rank_held, held_of, load_of, verdict_by, verdict_at}
use Rattle.desk.specs.Desk.{verdict_of, first_no, marked_desk, verdict_outcome, mark_outcome}
use Rattle.desk.proofs.DeskLaws.{load-yes, load-no, load-number-of, load-outcome-of, mark-yes, mark-no, mark-outcome-of}
use Rattle.desk.proofs.SumsLaws.{weight-below-most, inside-sum, sum_same, list-sum}
use Rattle.desk.specs.Calls.{load, mark, Calls, no_calls, ◌and_then◌, desk_after, AcceptedLoad, accepts, loaded_after}
use Rattle.desk.specs.Calls.{Taken, last_taken, points_in}
use Rattle.desk.specs.Calls.{marked_lists, last_number, mark_no_after, MarkedAfter, choice_of_list, ValidList, PlateMade, section_read}
use Rattle.desk.specs.DemandThree.{given, numbered_lists, number_from, LoadRight, VerdictRight}
use Rattle.desk.specs.DemandThree.{MarkedRight, MarkRight, BestList, DemandThree}
use Rattle.desk.proofs.Loaded.{points-same, count_same, rank-held, section-read}
use Rattle.desk.specs.declared.Desk.{Desk}
use Rattle.desk.specs.declared.Verdict.{Verdict}

-- VERDICTS AND PLATES

-- The verdict, by the first clash of the list's choice.
module _ (s : List ℕ) (r : Option (List ℕ)) (l : List ℕ) (a : Accepted s) (f : Listed (point_count s) l) where
  list-at-most : Valid (points_of s) (choice_of_list l) → list_sum (rank_in r) l ≤ best_sum (points_of s) (rank_in r)
  list-at-most v =
      rw (list-sum (rank_in r) s l f) at (best-sum-most (points_of s) (rank_in r) (choice_of_list l) a.proper.label-width.0 v)

  verdict-right : VerdictRight s r l (verdict_outcome (verdict_at s (rank_in r) (best_sum (points_of s) (rank_in r)) l))
  unfolding verdict_at
  verdict-right = which (first_clash (points_of s) (choice_of_list l)) refl
    where
      c : FirstClashRight (points_of s) (choice_of_list l)
      c = first-clash-right s (choice_of_list l) a

      apart : {x : Clash} → None ≡ Some x → ⊥
      apart e = true≢false (sym (ap is_clash e))

      which : (x : Option Clash) → first_clash (points_of s) (choice_of_list l) ≡ x
          → VerdictRight s r l (verdict_outcome (verdict_by x (list_sum (rank_in r) l) (best_sum (points_of s) (rank_in r))))
      which None e = record {
        valid-exactly = (λ t. c.none.0 e, λ v. refl);
        valid = λ v. refl;
        at_most = list-at-most;
        clash = λ i j k. (λ q. absurd (true≢false (λ t. (q t).valid)), λ n. absurd (apart (sym e ∙ (c.between i j k).1 n)));
      }
      which (Some x) e = record {
        valid-exactly = (λ t. absurd (not-both t refl), λ v. absurd (apart (sym (c.none.1 v) ∙ e)));
        valid = λ v. absurd (apart (sym (c.none.1 v) ∙ e));
        at_most = list-at-most;
        clash = λ a b m. (
          λ q.
              let f : Some x.first ≡ Some a = λ t. (q t).first in
              let g : Some x.second ≡ Some b = λ t. (q t).second in
              let h : Some x.kind ≡ Some m = λ t. (q t).kind in
              let i : x.first ≡ a = cc in
              let j : x.second ≡ b = cc in
              let k : x.kind ≡ m = cc in
              let y : Some x ≡ between a b m = λ t. Some (record { first = i t; second = j t; kind = k t }) in
              (c.between a b m).0 (e ∙ y),
          λ n.
              ap (λ x. verdict_outcome (verdict_by x (list_sum (rank_in r) l) (best_sum (points_of s) (rank_in r))))
              (sym e ∙ (c.between a b m).1 n),
        );
      }

-- a valid list is a valid choice of its sum
valid-list-most : (s : List ℕ) (r : Option (List ℕ)) (l : List ℕ) → Accepted s → ValidList s l
    → list_sum (rank_in r) l ≤ best_sum (points_of s) (rank_in r)
valid-list-most s r l a v = list-at-most s r l a ((none_list (point_count s) l).is v.well-formed) v.valid

-- The list of a valid choice with the best sum.
module _ (s : List ℕ) (r : Option (List ℕ)) (a : Accepted s) (S : Choice) (v : Valid (points_of s) S)
    (b : weight (points_of s) (rank_in r) S ≡ best_sum (points_of s) (rank_in r)) where
  choice-best : BestList s r (length (inside_below S (point_count s)) ∷ inside_below S (point_count s))
  unfolding weight
  choice-best =
      let p = inside_below S (point_count s) in
      let e : sum_of (rank_in r) p ≡ best_sum (points_of s) (rank_in r) = inside-sum (rank_in r) S (point_count s) ∙ b in
      record {
        valid = record {
          well-formed =
              (none_list (point_count s) (length p ∷ p)).of
              (choice-listed (point_count s) p (inside-ascending S (point_count s) (point_count s) (omega arith)));
          valid = valid-agree (points_of s) S (choice_of p) (record { at = λ i l. sym (choice-of-list S (point_count s) i l) }) v;
        };
        greatest = λ l w. rw e (valid-list-most s r l a w);
        best = e;
      }

-- "A plate made from S" is the best plate, whose choice is the preferred one: only the promise of make and make_ranked is used.
module _ (s : List ℕ) (r : Option (List ℕ)) where
  plate-made : (p : List ℕ) → PlateMade s r p → (p ≡ best_plate s r) × Preferred (points_of s) (rank_in r) (best_choice_of s r)
  plate-made p m = by m.answer m.made m.not-refused m.plate
    where
      by : {o w o' w' : List ℕ} (answer : Result ℕ Refusal) → Making s r o w answer o' w' → (make_outcome answer).refused ≡ false
          → p ≡ take (make_outcome answer).written o' → (p ≡ best_plate s r) × Preferred (points_of s) (rank_in r) (best_choice_of s r)
      by (Err x) m e q = absurd (true≢false e)
      by (Ok k) m e q = (q ∙ made-start m, made-preferred m)

  -- THE SAME PLATE FROM EVERY DESK (document 02 (d)): two plates made from one sheet, with one list or none and any buffers, are one.
  pub one-plate : (p q : List ℕ) → PlateMade s r p → PlateMade s r q → p ≡ q
  one-plate p q m n = (plate-made p m).0 ∙ sym (plate-made q n).0

  plate-made-best : (p : List ℕ) → Accepted s → PlateMade s r p → BestList s r (section_read p)
  unfolding best_plate
  plate-made-best p a m =
      let x = plate-made p m in
      let S = best_choice_of s r in
      let b = x.1.best in
      rw (x.0, section-read s S a)
      (choice-best s r a S b.valid (best-sums (points_of s) (rank_in r) S a.proper.label-width.0 b))

-- from every accepted sheet that has a valid choice some plate is made, with a right list or none: the best plate with zeroed buffers meets
-- the promise
feasible-plate : (s : List ℕ) (r : Option (List ℕ)) → Accepted s → RightRanks (point_count s) r → Feasible (points_of s)
    → (p : List ℕ) × PlateMade s r p
feasible-plate s r a l f =
    let o : List ℕ = replicate (12 + 8 * point_count s) 0 in
    let w : List ℕ = replicate workspace_cells 0 in
    let room : 12 + 8 * point_count s ≤ length o = rw (length-replicate {A = ℕ} (12 + 8 * point_count s) 0) (omega arith) in
    let cells : workspace_cells ≤ length w = rw (length-replicate {A = ℕ} workspace_cells 0) (omega arith) in
    let z : making_no s r (length o) (length w) ≡ 0 =
    (none-making s r (length o) (length w)).of (((a, (room, (cells, tt))), l), (f, tt)) in (
      _,
      record {
        output = o;
        workspace = w;
        answer = Ok (length (best_plate s r));
        output-after = output_after 0 s r o;
        workspace-after = workspace_after (making_no s r (length o) (length w)) w;
        made = made-making s r o w _ _ _ z refl refl refl;
        not-refused = refl;
        plate = refl;
      },
    )

-- so from the sheet of every accepted load, with its list
pub some-plate : (s : List ℕ) (r : Option (List ℕ)) (w : List ℕ) → AcceptedLoad s r w → (p : List ℕ) × PlateMade s r p
some-plate s r w z = let a = (none-load s r (length w)).is z in feasible-plate s r a.0.0.0 a.0.1 a.1.0

-- THE DESK AFTER ANY CALLS, tied to the words.

-- What the desk holds of the last accepted sheet and its list.
SheetHeld : Desk → Option Taken → Type 0
SheetHeld d None = d.held ≡ nothing_held
SheetHeld d (Some t) =
    (d.held ≡ held_of t.sheet (ranks_held t.sheet t.ranks) (best_sum (points_of t.sheet) (rank_in t.ranks)))
    × Accepted t.sheet × RightRanks (point_count t.sheet) t.ranks × Feasible (points_of t.sheet)

record Tied (calls : Calls) : Type 0 where
  sheet : SheetHeld (desk_after calls) (last_taken calls)
  loaded : loaded_after calls ≡ is_some (last_taken calls)
  last : (desk_after calls).last ≡ last_number calls
  numbers : numbered_lists calls ≡ number_from 1 (marked_lists calls)

-- the desk asks the questions that the words ask
same-mark-no : (d : Desk) (o : Option Taken) (k : ℕ) (l : List ℕ) → SheetHeld d o → d.last ≡ k
    → first_no d l ≡ mark_no (is_some o) (points_in o) k l
unfolding SheetHeld mark_no loaded_list_no
same-mark-no d None k l h e = rw h refl
same-mark-no d (Some t) k l h e = rw (h.0, count_same t.sheet, e) refl

tied-mark-no : (calls : Calls) (l : List ℕ) → Tied calls → first_no (desk_after calls) l ≡ mark_no_after calls l
tied-mark-no calls l t =
    same-mark-no (desk_after calls) (last_taken calls) (last_number calls) l t.sheet t.last
    ∙ ap (λ b. mark_no b (points_in (last_taken calls)) (last_number calls) l) (sym t.loaded)

-- one more numbered list
number-last : (k : ℕ) (ls : List (List ℕ)) (l : List ℕ)
    → number_from k (ls ++ l ∷ []) ≡ number_from k ls ++ record { number = k + length ls; list = l } ∷ []
unfolding number_from
number-last k [] l = ap (λ n. record { number = n; list = l } ∷ []) (let q : k ≡ k + 0 = omega arith in q)
number-last k (x ∷ ls) l =
    ap (λ r. record { number = k; list = x } ∷ r)
    (number-last (k + 1) ls l
    ∙ ap (λ n. number_from (k + 1) ls ++ record { number = n; list = l } ∷ [])
    (let q : k + 1 + length ls ≡ k + suc (length ls) = omega arith in q))

-- a desk and a last sheet put in place of equal ones
held_at : {d e : Desk} {o q : Option Taken} → d ≡ e → o ≡ q → SheetHeld e q → SheetHeld d o
held_at p q h = rw (p, q) h

-- a marked list leaves the sheet held
held-marked : (d : Desk) (k : ℕ) (v : Verdict) (o : Option Taken) → SheetHeld d o → SheetHeld (marked_desk (Ok (record { number = k; verdict = v })) d) o
unfolding SheetHeld
held-marked d k v None h = h
held-marked d k v (Some t) h = h

tied-load : (calls : Calls) (s : List ℕ) (r : Option (List ℕ)) (w : List ℕ) → Tied calls → Tied (calls and_then load s r w)
unfolding desk_after last_taken loaded_after marked_lists numbered_lists SheetHeld
tied-load calls s r w t =
    decide (accepts s r w)
    (λ e.
    let z : load_no s r (length w) ≡ 0 = eqb-true _ _ e in
    let x = load-yes (desk_after calls) s r w z in
    let a = (none-load s r (length w)).is z in
    record {
      sheet = held_at (ap (λ x. x.desk) x) (ap (λ b. cond b (Some taken) (last_taken calls)) e) (refl, a.0.0.0, a.0.1, a.1.0);
      loaded = rw e refl;
      last = ap (λ x. x.desk.last) x ∙ t.last;
      numbers = t.numbers;
    })
    (λ e.
    let x = load-no (desk_after calls) s r w (eqb-false _ _ e) in
    record {
      sheet = held_at (ap (λ x. x.desk) x) (ap (λ b. cond b (Some taken) (last_taken calls)) e) t.sheet;
      loaded = rw e t.loaded;
      last = ap (λ x. x.desk.last) x ∙ t.last;
      numbers = t.numbers;
    })
  where
    taken : Taken
    taken = record { sheet = s; ranks = r }

tied-mark : (calls : Calls) (l : List ℕ) → Tied calls → Tied (calls and_then mark l)
unfolding desk_after last_taken loaded_after marked_lists numbered_lists
tied-mark calls l t =
    let d = desk_after calls in
    let k = tied-mark-no calls l t in
    let ls = marked_lists calls in
    decide (eqb (mark_no_after calls l) 0)
    (λ e.
    let r = mark-yes d l (mark_no_after calls l) k (eqb-true _ _ e) in
    let n : d.last + 1 ≡ 1 + length ls = (let q = t.last in omega arith) in
    record {
      sheet = held_at (ap (λ r. r.desk) r) refl (held-marked d (d.last + 1) (verdict_of d l) (last_taken calls) t.sheet);
      loaded = t.loaded;
      last = ap (λ r. r.desk.last) r ∙ rw (e, length-append) (omega arith);
      numbers =
          ap₂ (λ x y. x ++ given (mark_outcome y).number l) t.numbers (ap (λ r. r.answer) r)
          ∙ ap (λ j. number_from 1 ls ++ record { number = j; list = l } ∷ []) n
          ∙ sym (number-last 1 ls l)
          ∙ ap (λ b. number_from 1 (ls ++ cond b (l ∷ []) [])) (sym e);
    })
    (λ e.
    let r = mark-no d l (mark_no_after calls l) k (eqb-false _ _ e) in
    record {
      sheet = held_at (ap (λ r. r.desk) r) refl t.sheet;
      loaded = t.loaded;
      last = ap (λ r. r.desk.last) r ∙ t.last ∙ ap length (sym (append-nil ls)) ∙ ap (λ b. length (ls ++ cond b (l ∷ []) [])) (sym e);
      numbers =
          ap₂ (λ x y. x ++ given (mark_outcome y).number l) t.numbers (ap (λ r. r.answer) r)
          ∙ append-nil (number_from 1 ls)
          ∙ ap (number_from 1) (sym (append-nil ls))
          ∙ ap (λ b. number_from 1 (ls ++ cond b (l ∷ []) [])) (sym e);
    })

tied : (calls : Calls) → Tied calls
unfolding desk_after last_taken loaded_after marked_lists numbered_lists number_from SheetHeld
tied no_calls = record { sheet = refl; loaded = refl; last = refl; numbers = refl }
tied (calls and_then load s r w) = tied-load calls s r w (tied calls)
tied (calls and_then mark l) = tied-mark calls l (tied calls)

-- THE CLAUSES

-- the last accepted sheet is accepted, its list is right, and it has a valid choice
sheet-accepted : (calls : Calls) (s : List ℕ) (r : Option (List ℕ)) → last_taken calls ≡ Some (record { sheet = s; ranks = r })
    → Accepted s × RightRanks (point_count s) r × Feasible (points_of s)
unfolding SheetHeld
sheet-accepted calls s r e = let h = rw e at (tied calls).sheet in (h.1, h.2, h.3)

-- the desk's spare byte is 0 after any calls
pub spare-zero : (calls : Calls) → (desk_after calls).held.spare ≡ 0
unfolding SheetHeld
spare-zero calls = by (last_taken calls) (tied calls).sheet
  where
    by : (o : Option Taken) → SheetHeld (desk_after calls) o → (desk_after calls).held.spare ≡ 0
    by None h = ap (λ x. x.spare) h
    by (Some t) h = ap (λ x. x.spare) h.0

-- the ranks held are 1 to 9, one for each point of the sheet held
pub ranks-held : (calls : Calls) (p : ℕ) → p < point_count (desk_after calls).held.sheet
    → UpTo 9 (rank_held (desk_after calls).held.ranks p)
unfolding SheetHeld no_sheet
ranks-held calls p l = by (last_taken calls) (tied calls).sheet
  where
    by : (o : Option Taken) → SheetHeld (desk_after calls) o → UpTo 9 (rank_held (desk_after calls).held.ranks p)
    by None h = let e = ap (λ x. point_count x.sheet) h in absurd (omega arith)
    by (Some t) h =
        let e : point_count (desk_after calls).held.sheet ≡ point_count t.sheet =
        ap (λ x. point_count x.sheet) h.0 ∙ count_same t.sheet in
        let r = rank-held t.sheet t.ranks p (omega arith) in
        let q : rank_held (desk_after calls).held.ranks p ≡ rank_in t.ranks p = ap (λ x. rank_held x.ranks p) h.0 ∙ r in
        rw q (ranks-up-to (point_count t.sheet) t.ranks h.2 p (omega arith))

-- and the best is at most 288, 32 points of rank 9; so is the sum of every valid list (`VerdictRight.at_most`)
pub best-held : (calls : Calls) → (desk_after calls).held.best ≤ 288
unfolding SheetHeld weight
best-held calls = by (last_taken calls) (tied calls).sheet
  where
    by : (o : Option Taken) → SheetHeld (desk_after calls) o → (desk_after calls).held.best ≤ 288
    by None h = let e = ap (λ x. x.best) h in omega arith
    by (Some t) h =
        let P = points_of t.sheet in
        let e = ap (λ x. x.best) h.0 in
        let x = best-sum-reached P (rank_in t.ranks) h.1.proper.label-width.0 h.3 in
        let m =
        weight-below-most (rank_in t.ranks) x.0 (point_count t.sheet)
        (λ i l. (ranks-up-to (point_count t.sheet) t.ranks h.2 i l).1) in
        omega (arith, x.2, h.1.proper.few)

load-right : (calls : Calls) (s : List ℕ) (r : Option (List ℕ)) (w : List ℕ) → LoadRight calls s r w
load-right calls s r w = record {
  accepted = λ z. load-outcome-of d s r w ∙ ap outcome_of z;
  zeroed = λ z. after ∙ ap (λ k. workspace_after k w) z;
  keeps = λ z. ap (λ r. r.desk.last) (load-yes d s r w z);
  refused = λ ne. load-outcome-of d s r w ∙ rw (ne_eqb (load_no s r (length w)) 0 ne);
  untouched = λ ne other. after ∙ untouched (load_no s r (length w)) w ne other;
  zeroed-61 = λ e. after ∙ zeroed-61 (load_no s r (length w)) w e;
  same-desk = λ ne. ap (λ r. r.desk) (load-no d s r w ne);
}
  where
    d : Desk
    d = desk_after calls

    after : workspace_after (no_of (load_of d s r w).answer) w ≡ workspace_after (load_no s r (length w)) w
    after = ap (λ k. workspace_after k w) (load-number-of d s r w)

-- a desk that holds the sheet s, and the ranks r, gives the verdict on s by r
verdict-held : (d : Desk) (s : List ℕ) (r : Option (List ℕ)) (l : List ℕ) → SheetHeld d (Some (record { sheet = s; ranks = r }))
    → Listed (point_count s) l → verdict_of d l ≡ verdict_at s (rank_in r) (best_sum (points_of s) (rank_in r)) l
unfolding SheetHeld verdict_at
verdict-held d s r l h f =
    ap (λ x. verdict_at x.sheet (rank_held x.ranks) x.best l) h.0
    ∙ ap₂ (λ P sum. verdict_by (first_clash P (choice_of_list l)) sum (best_sum (points_of s) (rank_in r))) (points-same s)
    (sum_same (rank_held (ranks_held s r)) (rank_in r) (point_count s) (positions l) f.up (rank-held s r))

marked-right : (calls : Calls) (l : List ℕ) → MarkedAfter calls l → MarkedRight calls l
unfolding SheetHeld
marked-right calls l z = by (last_taken calls) refl
  where
    d : Desk
    d = desk_after calls

    t : Tied calls
    t = tied calls

    asked : ((loaded_after calls ≡ true) × Listed (points_in (last_taken calls)) l) × ((last_number calls < 9999) × Unit {0})
    asked = (none-mark _ _ _ _).is z

    by : (o : Option Taken) → last_taken calls ≡ o → MarkedRight calls l
    by None e = absurd (not-both asked.0.0 (t.loaded ∙ ap is_some e))
    by (Some x) e =
        let h : SheetHeld d (Some x) = rw e at t.sheet in
        let f : Listed (point_count x.sheet) l = rw e at asked.0.1 in
        record {
          sheet = x.sheet;
          ranks = x.ranks;
          last-accepted = e;
          verdict = verdict_outcome (verdict_of d l);
          outcome =
              ap (λ r. mark_outcome r.answer) (mark-yes d l (mark_no_after calls l) (tied-mark-no calls l t) z)
              ∙ ap (λ k. record { refused = false; no = 0; number = Some (k + 1); verdict = Some (verdict_outcome (verdict_of d l)) })
              t.last;
          right = rw (verdict-held d x.sheet x.ranks l h f) (verdict-right x.sheet x.ranks l h.1 f);
        }

mark-right : (calls : Calls) (l : List ℕ) → MarkRight calls l
mark-right calls l = record {
  marked = marked-right calls l;
  refused = λ ne.
      mark-outcome-of (desk_after calls) l
      ∙ rw (tied-mark-no calls l (tied calls), ne_eqb (mark_no_after calls l) 0 ne);
  same-desk = λ ne. ap (λ r. r.desk) (mark-no (desk_after calls) l (mark_no_after calls l) (tied-mark-no calls l (tied calls)) ne);
}

-- DEMAND 3, for every sequence of calls
pub demand-three : (calls : Calls) → DemandThree calls
demand-three calls = record {
  last-number = (tied calls).last;
  numbers = (tied calls).numbers;
  load = load-right calls;
  mark = mark-right calls;
  plates = λ s r e p m. plate-made-best s r p (sheet-accepted calls s r e).0 m;
  some-plate = λ s r e. let a = sheet-accepted calls s r e in feasible-plate s r a.0 a.1 a.2;
}
