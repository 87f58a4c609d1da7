-- DEMAND 3 over document 01's section "The desk": what is claimed of every sequence of loads and marks from a fresh desk, clause by clause.
-- Document 02 (e): "sums of ranks stand where it has the count of a list or the best count".
-- The record at the end, DemandThree, is the whole of it. The sequence and the words are in Calls.antt; the theorem,
-- demand-three : (calls : Calls) → DemandThree calls, is the last one of proofs/DemandThreeProof.antt. Assumes nothing.
use Rattle.std.specs.Prelude.{◌≡◌, true, false, ◌↔◌, List, [], ◌∷◌, ◌++◌, ℕ, ◌+◌, ◌-◌, ◌≤◌, length, replicate, Option, None, Some}
use Rattle.labeling.specs.Marks.{Valid}
use Rattle.labeling.specs.Best.{best_sum}
use Rattle.format.specs.Sheet.{points_of}
use Rattle.format.specs.RankList.{rank_in}
use Rattle.format.specs.Answers.{no_of, outcome}
use Rattle.clash.specs.declared.ClashKind.{ClashKind}
use Rattle.clash.specs.ClashPixels.{Named}
use Rattle.format.specs.MakingQuestions.{workspace_after, load_no}
use Rattle.desk.specs.Desk.{list_sum, load_of, mark_of, VerdictOutcome, valid_outcome, clash_outcome, mark_outcome}
use Rattle.desk.specs.Calls.{load, mark, Calls, no_calls, ◌and_then◌, desk_after, AcceptedLoad, last_taken, marked_lists}
use Rattle.desk.specs.Calls.{last_number, mark_no_after, MarkedAfter, choice_of_list, ValidList, PlateMade, section_read}

-- NUMBERS

-- A list and its number.
pub record Numbered : Type 0 where
  pub number : ℕ
  pub list : List ℕ

-- The number that an answer carries, if any, with its list.
abbrev pub given : Option ℕ → List ℕ → List Numbered
given None l = []
given (Some k) l = record { number = k; list = l } ∷ []

-- The lists that the desk gave a number, with it, in their order.
unfoldable pub numbered_lists : Calls → List Numbered
numbered_lists no_calls = []
numbered_lists (calls and_then load s r w) = numbered_lists calls
numbered_lists (calls and_then mark l) = numbered_lists calls ++ given (mark_outcome (mark_of (desk_after calls) l).answer).number l

-- These lists with the numbers k, k + 1, and so on.
unfoldable pub number_from : ℕ → List (List ℕ) → List Numbered
number_from k [] = []
number_from k (l ∷ ls) = record { number = k; list = l } ∷ number_from (k + 1) ls

-- WHATEVER CALL COMES NEXT

-- The next call is a load of the bytes s with the rank list r or none and the workspace w.
pub record LoadRight (calls : Calls) (s : List ℕ) (r : Option (List ℕ)) (w : List ℕ) : Type 0 where
  -- an accepted load says so,
  pub accepted : AcceptedLoad s r w → outcome (load_of (desk_after calls) s r w).answer ≡ record { refused = false; no = 0 }
  -- leaves the workspace zero,
  pub zeroed : AcceptedLoad s r w → workspace_after (no_of (load_of (desk_after calls) s r w).answer) w ≡ replicate (length w) 0
  -- and "keeps the last number";
  pub keeps : AcceptedLoad s r w → (load_of (desk_after calls) s r w).desk.last ≡ (desk_after calls).last
  -- "Every other load ... is refused", with the number of its first no,
  pub refused : (AcceptedLoad s r w → ⊥)
      → outcome (load_of (desk_after calls) s r w).answer ≡ record { refused = true; no = load_no s r (length w) }
  -- and leaves the workspace as it was; but with 61, "unlike the others", the "whole workspace zero" (document 02 (c));
  pub untouched : (AcceptedLoad s r w → ⊥) → (load_no s r (length w) ≡ 61 → ⊥)
      → workspace_after (no_of (load_of (desk_after calls) s r w).answer) w ≡ w
  pub zeroed-61 : load_no s r (length w) ≡ 61
      → workspace_after (no_of (load_of (desk_after calls) s r w).answer) w ≡ replicate (length w) 0
  -- and in any case the desk as it was.
  pub same-desk : (AcceptedLoad s r w → ⊥) → (load_of (desk_after calls) s r w).desk ≡ desk_after calls

-- What the verdict on the list l of the sheet s, with the rank list r or none, says.
pub record VerdictRight (s : List ℕ) (r : Option (List ℕ)) (l : List ℕ) (v : VerdictOutcome) : Type 0 where
  -- "the desk calls C valid exactly when no pixel has two marks"; document 02 (a): "also ask that no inside label leaves the map"
  pub valid-exactly : (v.valid ≡ true) ↔ Valid (points_of s) (choice_of_list l)
  -- "a valid C is answered with C's count and, as its shortfall, the best count less C's count", which are sums of ranks,
  pub valid : Valid (points_of s) (choice_of_list l)
      → v ≡ valid_outcome (list_sum (rank_in r) l) (best_sum (points_of s) (rank_in r) - list_sum (rank_in r) l)
  -- and C's is not above the best
  pub at_most : Valid (points_of s) (choice_of_list l) → list_sum (rank_in r) l ≤ best_sum (points_of s) (rank_in r)
  -- "and for any other C the desk names the clash that document 01 fixes": the smallest first position, then the smallest second, that
  -- share a pixel, or that are one position whose label leaves the map, with their kind (Named, of clash's ClashPixels.antt)
  pub clash : (first second : ℕ) (kind : ClashKind)
      → (v ≡ clash_outcome first second kind) ↔ Named (points_of s) (choice_of_list l) first second kind

-- A marked list: there is a last accepted sheet, the answer has the next number and a verdict, and the verdict is right.
pub record MarkedRight (calls : Calls) (l : List ℕ) : Type 0 where
  pub sheet : List ℕ
  pub ranks : Option (List ℕ)
  pub last-accepted : last_taken calls ≡ Some (record { sheet = sheet; ranks = ranks })
  pub verdict : VerdictOutcome
  pub outcome : mark_outcome (mark_of (desk_after calls) l).answer
      ≡ record { refused = false; no = 0; number = Some (last_number calls + 1); verdict = Some verdict }
  pub right : VerdictRight sheet ranks l verdict

-- The next call is a mark of the list l.
pub record MarkRight (calls : Calls) (l : List ℕ) : Type 0 where
  pub marked : MarkedAfter calls l → MarkedRight calls l
  -- "Every other ... mark is refused", with the number of its first no, no list number and no verdict,
  pub refused : (MarkedAfter calls l → ⊥)
      → mark_outcome (mark_of (desk_after calls) l).answer
      ≡ record { refused = true; no = mark_no_after calls l; number = None; verdict = None }
  -- and leaves the desk as it was.
  pub same-desk : (MarkedAfter calls l → ⊥) → (mark_of (desk_after calls) l).desk ≡ desk_after calls

-- PLATES

-- "a valid list of S whose count no valid list of S exceeds, and that count is the best count of S", which are sums of ranks: the list l of
-- the sheet s with the rank list r or none. The best sum is defined over s and r alone.
pub record BestList (s : List ℕ) (r : Option (List ℕ)) (l : List ℕ) : Type 0 where
  pub valid : ValidList s l
  pub greatest : (other : List ℕ) → ValidList s other → list_sum (rank_in r) other ≤ list_sum (rank_in r) l
  pub best : list_sum (rank_in r) l ≡ best_sum (points_of s) (rank_in r)

-- DEMAND 3, of any sequence of calls
pub record DemandThree (calls : Calls) : Type 0 where
  -- "the last number is how many lists were marked earlier in the sequence"
  pub last-number : (desk_after calls).last ≡ last_number calls
  -- "just the lists that document 01 calls marked get a number, the k-th of them number k"
  pub numbers : numbered_lists calls ≡ number_from 1 (marked_lists calls)
  -- and of whatever call comes next
  pub load : (s : List ℕ) (r : Option (List ℕ)) (w : List ℕ) → LoadRight calls s r w
  pub mark : (l : List ℕ) → MarkRight calls l
  -- "At every point of the sequence that has a last accepted sheet S, the inside section of every plate made from S, count byte included,
  -- is a valid list of S whose count no valid list of S exceeds, and that count is the best count of S", which are sums of ranks; "the
  -- plate is made with that same list" (document 02 (e)), the one lent at S's load, if any
  pub plates : (s : List ℕ) (r : Option (List ℕ)) → last_taken calls ≡ Some (record { sheet = s; ranks = r })
      → (p : List ℕ) → PlateMade s r p → BestList s r (section_read p)
  -- There is such a plate, since 61 is one of the load's questions: the claim never holds for want of one.
  pub some-plate : (s : List ℕ) (r : Option (List ℕ)) → last_taken calls ≡ Some (record { sheet = s; ranks = r })
      → (p : List ℕ) × PlateMade s r p
