-- What the desk's exported calls answer, in the definitions of the crate desk. Assumes nothing.
use Rattle.std.specs.Prelude.{ℕ, Ok, Err}
use Rattle.format.specs.Answers.{number, no_of}
use Rattle.clash.specs.declared.ClashKind.{ClashKind}
use Rattle.clash.specs.declared.ClashKind.TheVariants.{Labels, LabelAndLeader, Overhang, TwoLeaders}
use Rattle.desk.specs.Desk.{LoadAnswer, MarkAnswer}
use Rattle.desk.specs.declared.Desk.{Desk}
use Rattle.desk.specs.declared.After.{After}
use Rattle.desk.specs.declared.Verdict.{Verdict}
use Rattle.desk.specs.declared.Verdict.TheVariants.{Valid, Clash}
use Rattle.plate_export.specs.declared.DeskLoadResult.{DeskLoadResult}
use Rattle.plate_export.specs.declared.DeskMarkResult.{DeskMarkResult}

-- LOAD

-- A load's result: the desk after it, and the number of the first no, 0 where nothing is refused.
abbrev pub load_reply : After LoadAnswer → DeskLoadResult
load_reply r = record { desk = r.desk; number = no_of r.answer }

-- MARK

-- The number of a clash's kind.
abbrev pub kind_number : ClashKind → ℕ
kind_number Labels = 2
kind_number LabelAndLeader = 3
kind_number Overhang = 4
kind_number TwoLeaders = 5

-- A list with this number and verdict.
abbrev pub verdict_reply : Desk → ℕ → Verdict → DeskMarkResult
verdict_reply d number (Valid sum shortfall) =
    record { desk = d; number = 0; list_number = number; verdict = 1; sum = sum; shortfall = shortfall; first = 0; second = 0 }
verdict_reply d number (Clash first second kind) =
    record {
      desk = d;
      number = 0;
      list_number = number;
      verdict = kind_number kind;
      sum = 0;
      shortfall = 0;
      first = first;
      second = second;
    }

-- The cases of mark's answer, at the desk d after it.
abbrev pub answer_reply : Desk → MarkAnswer → DeskMarkResult
answer_reply d (Ok m) = verdict_reply d m.number m.verdict
answer_reply d (Err r) = record { desk = d; number = number r; list_number = 0; verdict = 0; sum = 0; shortfall = 0; first = 0; second = 0 }

-- A mark's result.
abbrev pub mark_reply : After MarkAnswer → DeskMarkResult
mark_reply r = answer_reply r.desk r.answer
