-- No text is empty: so an answer of 0 says that the buffer is too short. Assumes nothing.
use Rattle.std.specs.Prelude.{List, ◌++◌, ℕ, ◌≤◌, length, Result, Ok, Err}
use Rattle.std.proofs.Common.{length-append, arith}
use Rattle.format.specs.Sheet.{point_count}
use Rattle.plate_reader.specs.PlateQuestions.{inside_count, outside_pairs}
use Rattle.desk.specs.declared.Desk.{Desk}
use Rattle.desk.specs.declared.Marked.{Marked}
use Rattle.lines.specs.Text.{ascii, decimal, spaced}
use Rattle.lines.specs.Listing.{columns_used, first_line, point_lines, listing_of}
use Rattle.lines.specs.DeskLines.{refusal_line, loaded_line, load_line, verdict_text, marked_line, mark_line}

-- a line ends with its newline
ended : (l : List ℕ) → 1 ≤ length (l ++ ascii "\n")
ended l = omega (arith, length-append l (ascii "\n"))

first_some : (p : List ℕ) → 1 ≤ length (first_line p)
unfolding first_line
first_some p = ended (ascii "plate" ++ spaced (point_count p) ++ spaced (inside_count p) ++ spaced (columns_used (outside_pairs p)))

pub listing-some : (p : List ℕ) → 1 ≤ length (listing_of p)
unfolding listing_of
listing-some p = omega (arith, length-append (first_line p) (point_lines p (point_count p)), first_some p)

pub refusal-some : (k : ℕ) → 1 ≤ length (refusal_line k)
unfolding refusal_line
refusal-some k = ended (ascii "refused" ++ spaced k)

pub load-some : (a : Result (Unit {0}) ℕ) (d : Desk) → 1 ≤ length (load_line a d)
unfolding loaded_line
load-some (Ok x) d = ended (ascii "loaded" ++ spaced (point_count d.held.sheet) ++ spaced d.held.best)
load-some (Err k) d = refusal-some k

pub mark-some : (a : Result Marked ℕ) → 1 ≤ length (mark_line a)
unfolding marked_line
mark-some (Ok m) = ended (decimal m.number ++ verdict_text m.verdict)
mark-some (Err k) = refusal-some k
