-- An answer and the number of its first no: each fixes the other. Assumes nothing.
use Rattle.std.specs.Prelude.{◌≡◌, refl, Bool, true, false, List, ℕ, zero, suc, leb, length, eqb, Option, None, Some, Result, Ok, Err, IfOk}
use Rattle.std.proofs.Common.{sym, ◌∙◌, ap, ne_eqb, arith}
use Rattle.format.specs.declared.refusal.Refusal.{Refusal}
use Rattle.format.specs.declared.refusal.Refusal.TheVariants.{TooShort, FrameCount, MapSides, LabelSides, PointCount, SheetLength, CallNumber, OffMap, SameCallNumber, SamePixel, OutputRoom, WorkspaceRoom, ListLength, ListPosition, ListOrder, PlateSections, InsideOrder, OutsidePairs, PlateClash, NoSheet, NoNumberLeft, NoValidChoice, RankCount, RankRange}
use Rattle.labeling.specs.Best.{feasible_b}
use Rattle.format.specs.Sizes.{workspace_cells}
use Rattle.format.specs.Sheet.{ask, then_no, frame_count, map_width, map_height, label_width, label_height, point_count, call_number, column, row}
use Rattle.format.specs.Sheet.{points_of, up_to, both_up_to, on_map, same_call, same_pixel, unlike_earlier, point_no, points_no, questions_no, sheet_no, plate_sheet_no}
use Rattle.format.specs.RankList.{rank_count_right, ranks_allowed, ranks_no}
use Rattle.format.specs.MakingQuestions.{workspace_no, room_no, asked_no, choice_no, choosing_no, making_no, load_asked_no, load_no}
use Rattle.format.specs.Answers.{IsNumber, outcome_of, number, refusal_of, no_of, outcome, answered}

-- A REFUSAL AND ITS NUMBER

-- each refusal is the one with its number
pub refusal-number : (r : Refusal) → refusal_of (number r) ≡ r
unfolding refusal_of
refusal-number TooShort = refl
refusal-number FrameCount = refl
refusal-number MapSides = refl
refusal-number LabelSides = refl
refusal-number PointCount = refl
refusal-number SheetLength = refl
refusal-number CallNumber = refl
refusal-number OffMap = refl
refusal-number SameCallNumber = refl
refusal-number SamePixel = refl
refusal-number OutputRoom = refl
refusal-number WorkspaceRoom = refl
refusal-number ListLength = refl
refusal-number ListPosition = refl
refusal-number ListOrder = refl
refusal-number PlateSections = refl
refusal-number InsideOrder = refl
refusal-number OutsidePairs = refl
refusal-number PlateClash = refl
refusal-number NoSheet = refl
refusal-number NoNumberLeft = refl
refusal-number NoValidChoice = refl
refusal-number RankCount = refl
refusal-number RankRange = refl

-- no refusal has the number of none
pub number-not-none : (r : Refusal) → number r ≡ 0 → ⊥
number-not-none TooShort e = omega arith
number-not-none FrameCount e = omega arith
number-not-none MapSides e = omega arith
number-not-none LabelSides e = omega arith
number-not-none PointCount e = omega arith
number-not-none SheetLength e = omega arith
number-not-none CallNumber e = omega arith
number-not-none OffMap e = omega arith
number-not-none SameCallNumber e = omega arith
number-not-none SamePixel e = omega arith
number-not-none OutputRoom e = omega arith
number-not-none WorkspaceRoom e = omega arith
number-not-none ListLength e = omega arith
number-not-none ListPosition e = omega arith
number-not-none ListOrder e = omega arith
number-not-none PlateSections e = omega arith
number-not-none InsideOrder e = omega arith
number-not-none OutsidePairs e = omega arith
number-not-none PlateClash e = omega arith
number-not-none NoSheet e = omega arith
number-not-none NoNumberLeft e = omega arith
number-not-none NoValidChoice e = omega arith
number-not-none RankCount e = omega arith
number-not-none RankRange e = omega arith

-- AN ANSWER AND ITS NUMBER

-- the outcome of an answer is that of its number
pub outcome-no : {A : Type 0} (r : Result A Refusal) → outcome r ≡ outcome_of (no_of r)
outcome-no (Ok x) = refl
outcome-no (Err r) = rw (ne_eqb (number r) 0 (number-not-none r)) refl

-- an answer with the number k and the value x is the one that k and x give
pub answered-by : {A : Type 0} (r : Result A Refusal) (k : ℕ) (x : A) → no_of r ≡ k → IfOk r (λ y. y ≡ x) → r ≡ answered k x
answered-by (Ok y) k x e v = rw (sym e, v) refl
answered-by (Err r) k x e v = rw (sym e, ne_eqb (number r) 0 (number-not-none r), refusal-number r) refl

-- THE NUMBERS OF QUESTIONS

-- whatever the value, an answer that a number gives has that number
pub number-answered : {A : Type 0} (k : ℕ) (x : A) → IsNumber k → no_of (answered k x) ≡ k
number-answered zero x n = refl
number-answered (suc k) x n =
    let m = rw (ne_eqb (suc k) 0 (λ e. omega arith)) at n.is in
    rw (ne_eqb (suc k) 0 (λ e. omega arith)) m

-- and its outcome is that of the number
pub outcome-answered : {A : Type 0} (k : ℕ) (x : A) → IsNumber k → outcome (answered k x) ≡ outcome_of k
outcome-answered k x n = outcome-no (answered k x) ∙ ap outcome_of (number-answered k x n)

-- no question, and a question with a refusal's number and those after it
pub no-question-number : IsNumber 0
no-question-number = record { is = refl }

pub refusals-number : (r : Refusal) → IsNumber (number r)
refusals-number r = record { is = rw (ne_eqb (number r) 0 (number-not-none r), refusal-number r) refl }

pub ask-number : (b : Bool) (r : Refusal) {after : ℕ} → IsNumber after → IsNumber (ask b (number r) after)
ask-number true r m = m
ask-number false r m = refusals-number r

-- two lists of questions
pub then-number : (first later : ℕ) → IsNumber first → IsNumber later → IsNumber (then_no first later)
then-number zero later n m = m
then-number (suc k) later n m = rw (ne_eqb (suc k) 0 (λ e. omega arith)) n

-- the sheet's questions
point-number : (s : List ℕ) (i : ℕ) → IsNumber (point_no s i)
unfolding point_no
point-number s i =
    ask-number (up_to 9999 (call_number s i)) CallNumber
    (ask-number (on_map s (column s i) (row s i)) OffMap
    (ask-number (unlike_earlier (same_call s) i) SameCallNumber
    (ask-number (unlike_earlier (same_pixel s) i) SamePixel no-question-number)))

points-number : (s : List ℕ) (m : ℕ) → IsNumber (points_no s m)
unfolding points_no
points-number s zero = no-question-number
points-number s (suc m) = then-number (points_no s m) (point_no s m) (points-number s m) (point-number s m)

pub questions-number : (s : List ℕ) (fits : Bool) → IsNumber (questions_no s fits)
unfolding questions_no
questions-number s fits =
    ask-number (leb 10 (length s)) TooShort
    (ask-number (eqb (frame_count s) 1) FrameCount
    (ask-number (both_up_to 4096 (map_width s) (map_height s)) MapSides
    (ask-number (both_up_to 256 (label_width s) (label_height s)) LabelSides
    (ask-number (leb (point_count s) 32) PointCount
    (ask-number fits SheetLength (points-number s (point_count s)))))))

pub sheet-number : (s : List ℕ) → IsNumber (sheet_no s)
unfolding sheet_no
sheet-number s = questions-number s _

pub plate-sheet-number : (p : List ℕ) → IsNumber (plate_sheet_no p)
unfolding plate_sheet_no
plate-sheet-number p = questions-number p _

-- those of a making and a load
pub ranks-number : (n : ℕ) (r : Option (List ℕ)) → IsNumber (ranks_no n r)
unfolding ranks_no
ranks-number n None = no-question-number
ranks-number n (Some r) = ask-number (rank_count_right n r) RankCount (ask-number (ranks_allowed n r) RankRange no-question-number)

choice-number : (s : List ℕ) → IsNumber (choice_no s)
choice-number s = ask-number (feasible_b (points_of s)) NoValidChoice no-question-number

workspace-number : (cells : ℕ) → IsNumber (workspace_no cells)
workspace-number cells = ask-number (leb workspace_cells cells) WorkspaceRoom no-question-number

pub asked-number : (s : List ℕ) (r : Option (List ℕ)) (fits : Bool) (cells : ℕ) → IsNumber (asked_no s r fits cells)
unfolding asked_no room_no
asked-number s r fits cells =
    then-number _ _ (then-number _ _ (sheet-number s) (ask-number fits OutputRoom (workspace-number cells))) (ranks-number _ r)

pub choosing-number : (s : List ℕ) (r : Option (List ℕ)) (fits : Bool) (cells : ℕ) → IsNumber (choosing_no s r fits cells)
unfolding choosing_no
choosing-number s r fits cells = then-number _ _ (asked-number s r fits cells) (choice-number s)

pub making-number : (s : List ℕ) (r : Option (List ℕ)) (room cells : ℕ) → IsNumber (making_no s r room cells)
unfolding making_no
making-number s r room cells = choosing-number s r _ cells

pub load-number : (s : List ℕ) (r : Option (List ℕ)) (cells : ℕ) → IsNumber (load_no s r cells)
unfolding load_no load_asked_no
load-number s r cells =
    then-number _ _ (then-number _ _ (then-number _ _ (sheet-number s) (workspace-number cells)) (ranks-number _ r)) (choice-number s)
