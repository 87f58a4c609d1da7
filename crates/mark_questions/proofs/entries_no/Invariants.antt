use mathlib.Core.Path.{◌≡◌}
use Rattle.mark_questions.specs.MarkQuestions.{entries_no}
use Rattle.mark_questions.proofs.entries_no.Given as goal

abbrev pub invariant-loop-k : goal.invariant-loop-k
invariant-loop-k l = entries_no l.n l.positions l.k ≡ 0
