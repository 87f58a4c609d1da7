-- A call of a script, and its line; and the desk that a script leaves. Assumes nothing.
use Rattle.std.specs.Prelude.{◌≡◌, List, ℕ, replicate, Option, None, Some}
use Rattle.format.specs.Sizes.{workspace_cells}
use Rattle.desk.specs.Desk.{LoadAnswer, load_of, mark_of}
use Rattle.desk.specs.Calls.{Calls, desk_after}
use Rattle.desk.specs.declared.After.{After}
use Rattle.desk.specs.declared.Desk.{Desk}
use Rattle.lines.specs.Numbered.{numbered}
use Rattle.lines.specs.DeskLines.{load_line, mark_line}
use Rattle.lines.specs.Rooms.{line_room}
use Rattle.lines.specs.Writing.{Prints}
use Rattle.script.specs.declared.CallKind.{CallKind}
use Rattle.script.specs.declared.CallKind.TheVariants.{Load, LoadRanked, Make, Read, MakeRanked}

-- What a call on a desk comes to: the desk after it, and its line.
pub record DeskCall : Type 0 where
  pub desk : Desk
  pub text : List ℕ

-- What a load with this result comes to.
abbrev pub loaded_call : After LoadAnswer → DeskCall
loaded_call r = record { desk = r.desk; text = load_line (numbered r.answer) r.desk }

-- A load with a workspace of zeros, with the rank list r or none.
abbrev pub loaded : Desk → List ℕ → Option (List ℕ) → After LoadAnswer
loaded d s r = load_of d s r (replicate workspace_cells 0)

-- A sheet is loaded, without a list or with one.
abbrev pub load_call : Desk → List ℕ → Option (List ℕ) → DeskCall
load_call d s r = loaded_call (loaded d s r)

-- A list is marked.
abbrev pub mark_call : Desk → List ℕ → DeskCall
mark_call d l = record { desk = (mark_of d l).desk; text = mark_line (numbered (mark_of d l).answer) }

-- A call on the desk d, by its first and second part: a sheet is loaded, or a sheet with a rank list; every other kind marks a list.
abbrev pub desk_call : Desk → CallKind → List ℕ → List ℕ → DeskCall
desk_call d Load a b = load_call d a None
desk_call d LoadRanked a b = load_call d a (Some b)
desk_call d _ a b = mark_call d a

-- The desk after a call of any kind: those that make or read a plate leave it as it was.
abbrev pub desk_after_call : Desk → CallKind → List ℕ → List ℕ → Desk
desk_after_call d Make a b = d
desk_after_call d Read a b = d
desk_after_call d MakeRanked a b = d
desk_after_call d kind a b = (desk_call d kind a b).desk

-- A call ran that comes to x: the desk d after it, and its line, of n bytes, in the buffer o.
pub record Runs (x : DeskCall) (o : List ℕ) (d : Desk) (n : ℕ) (o' : List ℕ) : Type 0 where
  pub desk : d ≡ x.desk
  pub line : Prints line_room x.text o n o'

-- A desk value that "loads and marks from a fresh desk give": demand 3 speaks of it.
pub record Reached (d : Desk) : Type 0 where
  pub calls : Calls
  pub desk : d ≡ desk_after calls
