-- What a load and a mark answer and leave, on every value of the desk, reachable or not (document 01, "The desk", and document 02 (c) and
-- (e)): the promises of the calls. Assumes nothing.
use Rattle.std.specs.Prelude.{◌≡◌, Bool, true, false, cond, not, List, [], ◌∷◌, ◌++◌, ℕ, zero, suc, ◌+◌, ◌-◌, eqb, length, get_or, replicate, Option, None, Some, Result, Ok, Err}
use Rattle.format.specs.Sizes.{most_points, sheet_room}
use Rattle.format.specs.Padded.{padded}
use Rattle.labeling.specs.Best.{best_sum}
use Rattle.format.specs.Sheet.{point_count, points_of}
use Rattle.format.specs.RankList.{rank_in}
use Rattle.format.specs.declared.refusal.Refusal.{Refusal}
use Rattle.format.specs.Answers.{number, no_of, outcome_of, outcome, answered}
use Rattle.format.specs.MakingQuestions.{workspace_after, load_no}
use Rattle.format.specs.Plate.{choice_of}
use Rattle.clash.specs.declared.ClashKind.{ClashKind}
use Rattle.clash.specs.declared.Clash.{Clash}
use Rattle.clash.specs.FirstClash.{first_clash}
use Rattle.mark_questions.specs.MarkQuestions.{positions, mark_no}
use Rattle.desk.specs.declared.Held.{Held}
use Rattle.desk.specs.declared.Desk.{Desk}
use Rattle.desk.specs.declared.After.{After}
use Rattle.desk.specs.declared.Marked.{Marked}
use Rattle.desk.specs.declared.Verdict.{Verdict}
use Rattle.desk.specs.declared.Verdict.TheVariants.{Valid, Clash as ClashVerdict}

-- SUMS

-- The sum of the ranks of these positions, where p has the rank `rank p`.
unfoldable pub sum_of : (ℕ → ℕ) → List ℕ → ℕ
sum_of rank [] = 0
sum_of rank (p ∷ l) = rank p + sum_of rank l

-- "sums of ranks stand where it has the count of a list" (document 02 (e)): the sum of a list.
abbrev pub list_sum : (ℕ → ℕ) → List ℕ → ℕ
list_sum rank l = sum_of rank (positions l)

-- WHAT A DESK HOLDS

-- No bytes of a sheet.
unfoldable pub no_sheet : List ℕ
no_sheet = replicate sheet_room 0

-- No ranks.
unfoldable pub no_ranks : List ℕ
no_ranks = replicate most_points 0

-- What a desk without a sheet holds.
abbrev pub nothing_held : Held
nothing_held = record { sheet = no_sheet; ranks = no_ranks; loaded = false; spare = 0; best = 0 }

-- "A fresh desk has no sheet and last number 0."
abbrev pub fresh : Desk
fresh = record { held = nothing_held; last = 0 }

-- The ranks of the first m positions.
unfoldable pub ranks_below : (ℕ → ℕ) → ℕ → List ℕ
ranks_below rank zero = []
ranks_below rank (suc m) = ranks_below rank m ++ rank m ∷ []

-- The ranks of the points of s as the desk keeps them, with the rank list r or none: zeros past the last point.
abbrev pub ranks_held : List ℕ → Option (List ℕ) → List ℕ
ranks_held s r = padded most_points (ranks_below (rank_in r) (point_count s))

-- The rank of position p in the ranks that a desk keeps.
abbrev pub rank_held : List ℕ → ℕ → ℕ
rank_held ranks p = get_or ranks p 0

-- What a load of the sheet s, with these ranks and this best sum, puts into the desk. The desk has room for the largest sheet, zeros past
-- the end of s.
abbrev pub held_of : List ℕ → List ℕ → ℕ → Held
held_of s ranks best = record { sheet = padded sheet_room s; ranks = ranks; loaded = true; spare = 0; best = best }

-- The desk d with something else held, and all else as it was.
abbrev pub with_held : Desk → Held → Desk
with_held d held = record { held = held; last = d.last }

-- The desk d with another last number, and all else as it was.
abbrev pub with_last : Desk → ℕ → Desk
with_last d last = record { held = d.held; last = last }

-- LOAD

-- What a load answers: the sheet is accepted, or refused.
abbrev pub LoadAnswer : Type 0
LoadAnswer = Result (Unit {0}) Refusal

-- The desk d after a load of the bytes s with the rank list r or none: by cases on the answer. "A load replaces the sheet and its best
-- count and keeps the last number"; the best sum stands for the best count, and the ranks go with it ("The desk's count and shortfall
-- become sums", document 02 (e)); on a refusal, 61 included, the desk stays untouched.
abbrev pub loaded_desk : LoadAnswer → Desk → List ℕ → Option (List ℕ) → Desk
loaded_desk (Ok x) d s r = with_held d (held_of s (ranks_held s r) (best_sum (points_of s) (rank_in r)))
loaded_desk (Err x) d s r = d

-- THE PROMISE of load, where l is none, and of load_ranked, where it is the list, on any desk d, bytes s, list and workspace w: the answer,
-- and what desk and workspace hold afterwards.
pub record Loading (d : Desk) (s : List ℕ) (l : Option (List ℕ)) (w : List ℕ) (r : After LoadAnswer) (w' : List ℕ) : Type 0 where
  pub outcome : outcome r.answer ≡ outcome_of (load_no s l (length w))
  pub desk : r.desk ≡ loaded_desk r.answer d s l
  pub workspace : w' ≡ workspace_after (no_of r.answer) w

-- The answer where the first no is k.
abbrev pub load_answer_of : ℕ → LoadAnswer
load_answer_of k = answered k tt

-- What a load with this answer gives.
abbrev pub load_result : Desk → List ℕ → Option (List ℕ) → LoadAnswer → After LoadAnswer
load_result d s r a = record { desk = loaded_desk a d s r; answer = a }

-- THE ONE RESULT that the promise leaves (loading-exactly, of proofs/DeskLaws.antt), as a term.
unfoldable pub load_of : Desk → List ℕ → Option (List ℕ) → List ℕ → After LoadAnswer
load_of d s r w = load_result d s r (load_answer_of (load_no s r (length w)))

-- MARK

-- What a verdict says: whether it calls the list valid; then "the list's count and its shortfall", both sums of ranks (document 02 (e)), or
-- the "two positions" of a clash and its kind.
pub record VerdictOutcome : Type 0 where
  pub valid : Bool
  pub sum : Option ℕ
  pub shortfall : Option ℕ
  pub first : Option ℕ
  pub second : Option ℕ
  pub kind : Option ClashKind

abbrev pub valid_outcome : ℕ → ℕ → VerdictOutcome
valid_outcome sum shortfall =
    record { valid = true; sum = Some sum; shortfall = Some shortfall; first = None; second = None; kind = None }

abbrev pub clash_outcome : ℕ → ℕ → ClashKind → VerdictOutcome
clash_outcome first second kind =
    record { valid = false; sum = None; shortfall = None; first = Some first; second = Some second; kind = Some kind }

-- The cases of a verdict.
abbrev pub verdict_outcome : Verdict → VerdictOutcome
verdict_outcome (Valid sum shortfall) = valid_outcome sum shortfall
verdict_outcome (ClashVerdict first second kind) = clash_outcome first second kind

-- What a mark answers: the list is marked, or the mark is refused.
abbrev pub MarkAnswer : Type 0
MarkAnswer = Result Marked Refusal

-- What an answer of mark says: whether it is refused, the number of the first no (0 where nothing is refused), and the list's number and
-- the verdict on it, if it has them.
pub record MarkOutcome : Type 0 where
  pub refused : Bool
  pub no : ℕ
  pub number : Option ℕ
  pub verdict : Option VerdictOutcome

-- The cases of mark's answer.
abbrev pub mark_outcome : MarkAnswer → MarkOutcome
mark_outcome (Ok m) = record { refused = false; no = 0; number = Some m.number; verdict = Some (verdict_outcome m.verdict) }
mark_outcome (Err x) = record { refused = true; no = number x; number = None; verdict = None }

-- "The next number."
abbrev pub next_number : ℕ → ℕ
next_number last = last + 1

-- The first no of a mark of the list l at this desk, 0 if there is none.
abbrev pub first_no : Desk → List ℕ → ℕ
first_no d l = mark_no d.held.loaded (point_count d.held.sheet) d.last l

-- The verdict by the first clash: "valid, with the list's count and its shortfall; or a clash, with two positions" and its kind. The count
-- is the sum of ranks ("The desk's count and shortfall become sums", document 02 (e)). The shortfall is 0 where the sum exceeds the best.
abbrev pub verdict_by : Option Clash → ℕ → ℕ → Verdict
verdict_by None sum best = Valid sum (best - sum)
verdict_by (Some c) sum best = ClashVerdict c.first c.second c.kind

-- The verdict on the list l of the sheet s, where p has the rank `rank p` and the best sum is `best`.
unfoldable pub verdict_at : List ℕ → (ℕ → ℕ) → ℕ → List ℕ → Verdict
verdict_at s rank best l = verdict_by (first_clash (points_of s) (choice_of (positions l))) (list_sum rank l) best

-- The verdict on the list l at this desk.
abbrev pub verdict_of : Desk → List ℕ → Verdict
verdict_of d l = verdict_at d.held.sheet (rank_held d.held.ranks) d.held.best l

-- The outcome of a mark of the list l at this desk, where the first no is k: "The answer carries the next number and a verdict"; "a refused
-- mark carries no list number and no verdict".
abbrev pub mark_outcome_of : Desk → List ℕ → ℕ → MarkOutcome
mark_outcome_of d l k = record {
  refused = not (eqb k 0);
  no = k;
  number = cond (eqb k 0) (Some (next_number d.last)) None;
  verdict = cond (eqb k 0) (Some (verdict_outcome (verdict_of d l))) None;
}

-- The desk d after a mark: by cases on the answer. A marked list's number is the last one, whatever the verdict: "Clashing lists use up a
-- number too". "buffers, workspace and desk stay untouched" on a refusal.
abbrev pub marked_desk : MarkAnswer → Desk → Desk
marked_desk (Ok m) d = with_last d m.number
marked_desk (Err x) d = d

-- THE PROMISE of mark, on any desk d and list l: its answer, and what the desk holds afterwards.
pub record Marking (d : Desk) (l : List ℕ) (r : After MarkAnswer) : Type 0 where
  pub outcome : mark_outcome r.answer ≡ mark_outcome_of d l (first_no d l)
  pub desk : r.desk ≡ marked_desk r.answer d

-- The answer where the first no is k.
abbrev pub mark_answer_of : Desk → List ℕ → ℕ → MarkAnswer
mark_answer_of d l k = answered k (record { number = next_number d.last; verdict = verdict_of d l })

-- What a mark with this answer gives.
abbrev pub mark_result : Desk → MarkAnswer → After MarkAnswer
mark_result d a = record { desk = marked_desk a d; answer = a }

-- THE ONE RESULT that the promise leaves (marking-exactly, of proofs/DeskLaws.antt), as a term.
unfoldable pub mark_of : Desk → List ℕ → After MarkAnswer
mark_of d l = mark_result d (mark_answer_of d l (first_no d l))
