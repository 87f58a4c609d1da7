-- The lines of a refusal and of the desk's answers: `refused K`, `loaded N BEST`, `NUMBER valid SUM SHORTFALL` and
-- `NUMBER clash FIRST SECOND KIND`. Assumes nothing.
use Rattle.std.specs.Prelude.{List, ◌++◌, ℕ, Result, Ok, Err}
use Rattle.format.specs.Sheet.{point_count}
use Rattle.clash.specs.declared.ClashKind.{ClashKind}
use Rattle.clash.specs.declared.ClashKind.TheVariants.{Labels, LabelAndLeader, Overhang, TwoLeaders}
use Rattle.desk.specs.declared.Desk.{Desk}
use Rattle.desk.specs.declared.Marked.{Marked}
use Rattle.desk.specs.declared.Verdict.{Verdict}
use Rattle.desk.specs.declared.Verdict.TheVariants.{Valid, Clash}
use Rattle.lines.specs.Text.{ascii, decimal, spaced}

-- "A refusal prints one line, as `refused 16`."
unfoldable pub refusal_line : ℕ → List ℕ
refusal_line k = ascii "refused" ++ spaced k ++ ascii "\n"

-- The line of an accepted sheet: the point count and the best sum of the desk that has it.
unfoldable pub loaded_line : Desk → List ℕ
loaded_line d = ascii "loaded" ++ spaced (point_count d.held.sheet) ++ spaced d.held.best ++ ascii "\n"

-- The line of a load with this answer, which gave the desk d. A refusal is a number here, any at all.
abbrev pub load_line : Result (Unit {0}) ℕ → Desk → List ℕ
load_line (Ok x) d = loaded_line d
load_line (Err k) d = refusal_line k

-- "whether two labels met or a label met a leader"; an overhang "gets its own kind" (document 02 (a)); "a mark can name two leaders as its
-- clash" (document 02 (c))
abbrev pub kind_word : ClashKind → List ℕ
kind_word Labels = ascii " labels"
kind_word LabelAndLeader = ascii " leader"
kind_word Overhang = ascii " overhang"
kind_word TwoLeaders = ascii " leaders"

-- "valid, with the list's count and its shortfall", both sums of ranks (document 02 (e))
unfoldable pub valid_text : ℕ → ℕ → List ℕ
valid_text sum shortfall = ascii " valid" ++ spaced sum ++ spaced shortfall

-- "a clash, with two positions" and its kind
unfoldable pub clash_text : ℕ → ℕ → ClashKind → List ℕ
clash_text first second kind = ascii " clash" ++ spaced first ++ spaced second ++ kind_word kind

abbrev pub verdict_text : Verdict → List ℕ
verdict_text (Valid sum shortfall) = valid_text sum shortfall
verdict_text (Clash first second kind) = clash_text first second kind

-- The line of a marked list: "The answer carries the next number and a verdict".
unfoldable pub marked_line : ℕ → Verdict → List ℕ
marked_line number verdict = decimal number ++ verdict_text verdict ++ ascii "\n"

-- The line of a mark with this answer.
abbrev pub mark_line : Result Marked ℕ → List ℕ
mark_line (Ok m) = marked_line m.number m.verdict
mark_line (Err k) = refusal_line k
