-- The theorems on the definitions of specs/Session.antt. Assumes nothing.
use Rattle.std.specs.Prelude.{◌≡◌, List, ℕ, replicate, Option, None, Some, unwrap_or}
use Rattle.std.proofs.Common.{ap, ◌∙◌, subst}
use Rattle.format.specs.Sizes.{workspace_cells}
use Rattle.desk.specs.Desk.{fresh, LoadAnswer, Loading, MarkAnswer, Marking, mark_of}
use Rattle.desk.specs.Calls.{load, mark, no_calls, ◌and_then◌, desk_after}
use Rattle.desk.specs.declared.After.{After}
use Rattle.desk.specs.declared.Desk.{Desk}
use Rattle.desk.proofs.DeskLaws.{loading-exactly, marking-exactly}
use Rattle.lines.specs.Numbered.{numbered}
use Rattle.lines.specs.DeskLines.{load_line, mark_line}
use Rattle.lines.specs.Rooms.{line_room}
use Rattle.lines.specs.Writing.{Prints}
use Rattle.script.specs.Calls.{kind_of}
use Rattle.script.specs.declared.CallKind.{CallKind}
use Rattle.script.specs.declared.CallKind.TheVariants.{Load, Mark, LoadRanked, Make, Read, MakeRanked}
use Rattle.script.specs.declared.Kinds.TheVariants.{All}
use Rattle.session.specs.Session.{loaded, load_call, mark_call, desk_after_call, Runs, Reached}

-- A call runs that keeps its promise, and whose line is written: a load,
pub load-runs : (d : Desk) (s : List ℕ) (l : Option (List ℕ)) (w' : List ℕ) (r : After LoadAnswer) (o o' : List ℕ) (n : ℕ) →
    Loading d s l (replicate workspace_cells 0) r w' →
    Prints line_room (load_line (numbered r.answer) r.desk) o n o' →
    Runs (load_call d s l) o r.desk n o'
load-runs d s l w' r o o' n m p =
    let e : r ≡ loaded d s l = ((loading-exactly d s l (replicate workspace_cells 0) w' r).0 m).0 in
    record {
      desk = ap (λ (x : After LoadAnswer). x.desk) e;
      line = subst (λ (x : After LoadAnswer). Prints line_room (load_line (numbered x.answer) x.desk) o n o') e p;
    }

-- and a mark.
pub mark-runs : (d : Desk) (l : List ℕ) (r : After MarkAnswer) (o o' : List ℕ) (n : ℕ) →
    Marking d l r →
    Prints line_room (mark_line (numbered r.answer)) o n o' →
    Runs (mark_call d l) o r.desk n o'
mark-runs d l r o o' n m p =
    let e : r ≡ mark_of d l = (marking-exactly d l r).0 m in
    record {
      desk = ap (λ (x : After MarkAnswer). x.desk) e;
      line = subst (λ (x : After MarkAnswer). Prints line_room (mark_line (numbered x.answer)) o n o') e p;
    }

-- A fresh desk is one,
pub reached-fresh : (d : Desk) → d ≡ fresh → Reached d
unfolding desk_after
reached-fresh d e = record { calls = no_calls; desk = e }

-- so is the desk after a load and after a mark,
reached-load : (d d' : Desk) (s : List ℕ) (l : Option (List ℕ)) → Reached d → d' ≡ (load_call d s l).desk → Reached d'
unfolding desk_after
reached-load d d' s l r q = record {
  calls = r.calls and_then load s l (replicate workspace_cells 0);
  desk = q ∙ ap (λ e. (loaded e s l).desk) r.desk;
}

reached-mark : (d d' : Desk) (l : List ℕ) → Reached d → d' ≡ (mark_call d l).desk → Reached d'
unfolding desk_after
reached-mark d d' l r q = record { calls = r.calls and_then mark l; desk = q ∙ ap (λ e. (mark_of e l).desk) r.desk }

-- and so is the desk after a call.
pub reached-after : (d d' : Desk) (kind : CallKind) (a b : List ℕ) → Reached d → d' ≡ desk_after_call d kind a b → Reached d'
reached-after d d' Load a b r q = reached-load d d' a None r q
reached-after d d' LoadRanked a b r q = reached-load d d' a (Some b) r q
reached-after d d' Mark a b r q = reached-mark d d' a r q
reached-after d d' Make a b r q = rw q r
reached-after d d' Read a b r q = rw q r
reached-after d d' MakeRanked a b r q = rw q r

-- Said of the byte that a call begins with; one that begins no call is taken for a mark's.
pub reached-after-byte : (d d' : Desk) (byte : ℕ) (a b : List ℕ) → Reached d → d' ≡ desk_after_call d (unwrap_or (kind_of All byte) Mark) a b
    → Reached d'
reached-after-byte d d' byte = reached-after d d' (unwrap_or (kind_of All byte) Mark)
