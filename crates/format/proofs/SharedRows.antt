-- What document 02 (c) says of numbers: 61 comes exactly if no choice of the sheet is valid, the sheet's own questions never have it, and
-- "Sheets with distinct rows get the answers they had". Assumes nothing.
use Rattle.std.specs.Prelude.{◌≡◌, Bool, ◌↔◌, List, leb, eqb, length, Option, None, Some}
use Rattle.std.proofs.Math.Path.{refl}
use Rattle.std.proofs.Common.{sym, ◌∙◌, eq-eqb, ne_eqb, arith}
use Prim.Native.Nat.{ℕ, zero, suc, ◌≤◌, ◌<◌}
use Rattle.labeling.specs.Points.{DistinctRows}
use Rattle.labeling.specs.Best.{Feasible, feasible_b}
use Rattle.labeling.proofs.Greatest.{dec-feasible, distinct-feasible}
use Rattle.labeling.proofs.Decide.{decide, same, dec-and, dec-eq}
use Rattle.format.specs.Sizes.{workspace_cells}
use Rattle.format.specs.Sheet.{frame_count, map_width, map_height, label_width, label_height, point_count, call_number, column, row}
use Rattle.format.specs.Sheet.{points_of, then_no, up_to, both_up_to, on_map, same_call, same_pixel, unlike_earlier, point_no, points_no}
use Rattle.format.specs.Sheet.{questions_no, sheet_no, plate_sheet_no}
use Rattle.format.specs.Accepted.{Accepted, SamePixel}
use Rattle.format.proofs.Accepted.{dec-unlike}
use Rattle.format.proofs.Asking.{ask-has, then-has, ask-most, then-most}
use Rattle.format.specs.RankList.{rank_count_right, ranks_allowed, ranks_no}
use Rattle.format.specs.MakingQuestions.{workspace_no, room_no, asked_no, output_fits, choice_no, choosing_no, making_no, load_asked_no}
use Rattle.format.specs.MakingQuestions.{load_no}
use Rattle.format.proofs.MakingQuestions.{none-asked, none-choice, none-load-asked}
use Rattle.format.specs.SharedRows.{Other, same_row, point_no_by_row, points_no_by_row, AnswersKept}

-- "THE SHEET'S QUESTIONS" have the numbers 11 to 20, so check_sheet never answers 61

point-most : (s : List ℕ) (i : ℕ) → point_no s i ≤ 20
unfolding point_no
point-most s i =
    ask-most (up_to 9999 (call_number s i)) 20 17 _ (omega arith)
    (ask-most (on_map s (column s i) (row s i)) 20 18 _ (omega arith)
    (ask-most (unlike_earlier (same_call s) i) 20 19 _ (omega arith)
    (ask-most (unlike_earlier (same_pixel s) i) 20 20 0 (omega arith) (omega arith))))

points-most : (s : List ℕ) (m : ℕ) → points_no s m ≤ 20
unfolding points_no
points-most s zero = omega arith
points-most s (suc m) = then-most 20 (points_no s m) (point_no s m) (points-most s m) (point-most s m)

questions-most : (s : List ℕ) (fits : Bool) → questions_no s fits ≤ 20
unfolding questions_no
questions-most s fits =
    ask-most (leb 10 (length s)) 20 11 _ (omega arith)
    (ask-most (eqb (frame_count s) 1) 20 12 _ (omega arith)
    (ask-most (both_up_to 4096 (map_width s) (map_height s)) 20 13 _ (omega arith)
    (ask-most (both_up_to 256 (label_width s) (label_height s)) 20 14 _ (omega arith)
    (ask-most (leb (point_count s) 32) 20 15 _ (omega arith)
    (ask-most fits 20 16 _ (omega arith) (points-most s (point_count s)))))))

pub sheet-most : (s : List ℕ) → sheet_no s ≤ 20
unfolding sheet_no
sheet-most s = questions-most s _

pub plate-sheet-most : (p : List ℕ) → plate_sheet_no p ≤ 20
unfolding plate_sheet_no
plate-sheet-most p = questions-most p _

workspace-most : (cells : ℕ) → workspace_no cells ≤ 22
workspace-most cells = ask-most (leb workspace_cells cells) 22 22 0 (omega arith) (omega arith)

room_most : (s : List ℕ) (fits : Bool) (cells : ℕ) → room_no s fits cells ≤ 22
unfolding room_no
room_most s fits cells =
    then-most 22 (sheet_no s) _ (omega (arith, sheet-most s)) (ask-most fits 22 21 _ (omega arith) (workspace-most cells))

ranks-other : (n : ℕ) (r : Option (List ℕ)) → Other (ranks_no n r)
unfolding ranks_no
ranks-other n None = λ e. omega arith
ranks-other n (Some r) =
    ask-has Other (rank_count_right n r) 62 _ (λ e. omega arith) (ask-has Other (ranks_allowed n r) 63 0 (λ e. omega arith) (λ e. omega arith))

pub asked-other : (s : List ℕ) (r : Option (List ℕ)) (fits : Bool) (cells : ℕ) → asked_no s r fits cells ≡ 61 → ⊥
unfolding asked_no
asked-other s r fits cells = then-has Other (room_no s fits cells) _ (λ e. omega (arith, room_most s fits cells)) (ranks-other _ r)

load-asked-other : (s : List ℕ) (r : Option (List ℕ)) (cells : ℕ) → load_asked_no s r cells ≡ 61 → ⊥
unfolding load_asked_no
load-asked-other s r cells =
    then-has Other (then_no (sheet_no s) (workspace_no cells)) _
    (λ e. omega (arith, then-most 22 (sheet_no s) _ (omega (arith, sheet-most s)) (workspace-most cells)))
    (ranks-other _ r)

-- 61 EXACTLY IF NO CHOICE IS VALID

-- of questions with other numbers, which accept the sheet s, and then 61
module _ (s : List ℕ) (before : ℕ) (other : before ≡ 61 → ⊥) (sheet : before ≡ 0 → Accepted s) where
  sixty-one : (then_no before (choice_no s) ≡ 61) ↔ ((before ≡ 0) × (Feasible (points_of s) → ⊥))
  sixty-one = (
    λ e. same before 0
        (λ z. (
          z,
          λ f. (let y : then_no before (choice_no s) ≡ 0 = rw (eq-eqb before 0 z) ((none-choice s (sheet z)).of (f, tt)) in omega arith),
        ))
        (λ ne. let y : then_no before (choice_no s) ≡ before = rw (ne_eqb before 0 ne) in absurd (other (sym y ∙ e))),
    λ a. decide (feasible_b (points_of s))
        (λ t. absurd (a.1 ((dec-feasible (points_of s) (sheet a.0).proper.label-width.0).is t)))
        (λ t. rw (eq-eqb before 0 a.0, t)),
  )

pub making-61 : (s : List ℕ) (r : Option (List ℕ)) (room cells : ℕ)
    → (making_no s r room cells ≡ 61) ↔ ((asked_no s r (output_fits s room) cells ≡ 0) × (Feasible (points_of s) → ⊥))
unfolding making_no choosing_no
making-61 s r room cells =
    sixty-one s (asked_no s r (output_fits s room) cells) (asked-other s r _ cells) (λ z. ((none-asked s r _ cells).is z).0.0)

pub load-61 : (s : List ℕ) (r : Option (List ℕ)) (cells : ℕ)
    → (load_no s r cells ≡ 61) ↔ ((load_asked_no s r cells ≡ 0) × (Feasible (points_of s) → ⊥))
unfolding load_no
load-61 s r cells = sixty-one s (load_asked_no s r cells) (load-asked-other s r cells) (λ z. ((none-load-asked s r cells).is z).0.0)

-- no question 61
module _ (s : List ℕ) (d : DistinctRows (points_of s)) (before : ℕ) (sheet : before ≡ 0 → Accepted s) where
  never-61 : then_no before (choice_no s) ≡ before
  never-61 =
      same before 0
      (λ z. rw (eq-eqb before 0 z) ((none-choice s (sheet z)).of (distinct-feasible (points_of s) d, tt) ∙ sym z))
      (λ ne. rw (ne_eqb before 0 ne))

-- 20 is answered yes by both
module _ (s : List ℕ) (d : DistinctRows (points_of s)) where
  alone : (j i : ℕ) → j < i → i < point_count s → row s j ≡ row s i → ⊥
  alone j i k l e = let q = d.apart j i (omega arith) l e in omega arith

  point-same : (i : ℕ) → i < point_count s → point_no s i ≡ point_no_by_row s i
  unfolding point_no point_no_by_row
  point-same i l =
      rw (
        (dec-unlike (same_pixel s) (SamePixel s) i (λ j. dec-and (dec-eq _ _) (dec-eq _ _))).of (λ j k e. alone j i k l e.0),
        (dec-unlike (same_row s) (λ j i. row s j ≡ row s i) i (λ j. dec-eq _ _)).of (λ j k e. alone j i k l e),
      )

  points-same : (m : ℕ) → m ≤ point_count s → points_no s m ≡ points_no_by_row s m
  unfolding points_no points_no_by_row
  points-same zero l = refl
  points-same (suc m) l = rw (points-same m (omega arith), point-same m l)

pub distinct-rows-answers : (s : List ℕ) → DistinctRows (points_of s) → AnswersKept s
unfolding making_no choosing_no load_no
distinct-rows-answers s d = record {
  points = points-same s d (point_count s) (omega arith);
  making = λ r room cells.
      never-61 s d (asked_no s r (output_fits s room) cells) (λ z. ((none-asked s r _ cells).is z).0.0);
  loading = λ r cells. never-61 s d (load_asked_no s r cells) (λ z. ((none-load-asked s r cells).is z).0.0);
}
