-- A sequence of calls, and document 01's words about it ("The desk", words of demand 3) with the rank lists of document 02 (e): first the
-- sequence and the desk that it leaves, by the promises of a load and of a mark; then the words, from the calls alone. What demand 3 claims
-- in these words is in DemandThree.antt. Assumes nothing.
use Rattle.std.specs.Prelude.{◌≡◌, Bool, false, cond, ◌||◌, List, [], ◌∷◌, ◌++◌, ℕ, ◌+◌, eqb, length, take, drop, Option, None, Some, Result}
use Rattle.labeling.specs.Points.{Choice}
use Rattle.labeling.specs.Marks.{Valid}
use Rattle.format.specs.declared.refusal.Refusal.{Refusal}
use Rattle.format.specs.Sheet.{point_count, points_of, sheet_length}
use Rattle.format.specs.Plate.{choice_of}
use Rattle.plate_reader.specs.PlateQuestions.{inside_count}
use Rattle.plate_maker.specs.Making.{make_outcome, Making}
use Rattle.format.specs.MakingQuestions.{load_no}
use Rattle.mark_questions.specs.MarkQuestions.{positions, list_no, mark_no}
use Rattle.desk.specs.Desk.{fresh, load_of, mark_of}
use Rattle.desk.specs.declared.Desk.{Desk}

-- THE SEQUENCE

-- A call: "A call may be lent any bytes at all, and a load any workspace." "A rank list may be lent beside the sheet" (document 02 (e)).
pub data Call : Type 0 where
  load : (sheet : List ℕ) (ranks : Option (List ℕ)) (workspace : List ℕ) → Call
  mark : (list : List ℕ) → Call

-- "Its sequence is any list of loads and marks, in any order and of any length, the empty one too."
pub data Calls : Type 0 where
  no_calls : Calls
  ◌and_then◌ : Calls → Call → Calls

infixl 20 ◌and_then◌
-- The desk that a call hands back: load_of and mark_of are the one result that the promises of a load and a mark leave (loading-exactly,
-- marking-exactly, of proofs/DeskLaws.antt).
abbrev pub desk_of : Desk → Call → Desk
desk_of d (load s r w) = (load_of d s r w).desk
desk_of d (mark l) = (mark_of d l).desk

-- "It starts from a fresh desk. Each call gets the desk that the call before it handed back."
unfoldable pub desk_after : Calls → Desk
desk_after no_calls = fresh
desk_after (calls and_then c) = desk_of (desk_after calls) c

-- DOCUMENT 01'S WORDS, from the calls alone

-- "A load is accepted if all its questions are answered yes", 61 to 63 among them (document 02 (c) and (e)).
abbrev pub AcceptedLoad : List ℕ → Option (List ℕ) → List ℕ → Type 0
AcceptedLoad s r w = load_no s r (length w) ≡ 0

-- The same as a test.
abbrev pub accepts : List ℕ → Option (List ℕ) → List ℕ → Bool
accepts s r w = eqb (load_no s r (length w)) 0

-- "a sheet is loaded if a load earlier in the sequence was accepted"
unfoldable pub loaded_after : Calls → Bool
loaded_after no_calls = false
loaded_after (calls and_then load s r w) = accepts s r w || loaded_after calls
loaded_after (calls and_then mark l) = loaded_after calls

-- An accepted sheet "together with the rank list lent at its load, if any" (document 02 (e)).
pub record Taken : Type 0 where
  pub sheet : List ℕ
  pub ranks : Option (List ℕ)

-- "the last sheet so accepted", where there is one, with its list
unfoldable pub last_taken : Calls → Option Taken
last_taken no_calls = None
last_taken (calls and_then load s r w) = cond (accepts s r w) (Some (record { sheet = s; ranks = r })) (last_taken calls)
last_taken (calls and_then mark l) = last_taken calls

-- "n is that of the last sheet so accepted" (0 where there is none)
abbrev pub points_in : Option Taken → ℕ
points_in None = 0
points_in (Some t) = point_count t.sheet

-- The lists marked, in their order. "A list is marked if all its mark's questions are answered yes. In these, ... the last number is how
-- many lists were marked earlier in the sequence, under whatever sheets."
unfoldable pub marked_lists : Calls → List (List ℕ)
marked_lists no_calls = []
marked_lists (calls and_then load s r w) = marked_lists calls
marked_lists (calls and_then mark l) =
    marked_lists calls ++ cond (eqb (mark_no (loaded_after calls) (points_in (last_taken calls)) (length (marked_lists calls)) l) 0) (l ∷ []) []

-- "the last number is how many lists were marked earlier in the sequence"
abbrev pub last_number : Calls → ℕ
last_number calls = length (marked_lists calls)

-- The first no of a mark of the list l after these calls, 0 if there is none.
abbrev pub mark_no_after : Calls → List ℕ → ℕ
mark_no_after calls l = mark_no (loaded_after calls) (points_in (last_taken calls)) (last_number calls) l

-- "A list is marked if all its mark's questions are answered yes."
abbrev pub MarkedAfter : Calls → List ℕ → Type 0
MarkedAfter calls l = mark_no_after calls l ≡ 0

-- "A list is well-formed for a sheet if 31 to 33 are answered yes with that sheet's n."
abbrev pub WellFormed : List ℕ → List ℕ → Type 0
WellFormed s l = list_no (point_count s) l ≡ 0

-- "It stands for the choice with its positions inside."
abbrev pub choice_of_list : List ℕ → Choice
choice_of_list l = choice_of (positions l)

-- "a valid list is a well-formed one whose choice is valid"
pub record ValidList (s l : List ℕ) : Type 0 where
  pub well-formed : WellFormed s l
  pub valid : Valid (points_of s) (choice_of_list l)

-- "A plate made from S is the plate that a making puts into its output when it is given the bytes of S and isn't refused", and "the plate
-- is made with that same list" (document 02 (e)): p is the first written-length bytes of an output that meets the contract of make, or of
-- make_ranked with the list r, with any buffers.
pub record PlateMade (s : List ℕ) (r : Option (List ℕ)) (p : List ℕ) : Type 0 where
  pub output : List ℕ
  pub workspace : List ℕ
  pub answer : Result ℕ Refusal
  pub output-after : List ℕ
  pub workspace-after : List ℕ
  pub made : Making s r output workspace answer output-after workspace-after
  pub not-refused : (make_outcome answer).refused ≡ false
  pub plate : p ≡ take (make_outcome answer).written output-after

-- "the inside section ..., count byte included", read from a plate's bytes: it starts where the sheet ends.
unfoldable pub section_read : List ℕ → List ℕ
section_read p = take (1 + inside_count p) (drop (sheet_length p) p)
