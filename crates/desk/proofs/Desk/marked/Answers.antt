-- `desk::Desk::marked` meets its contract. Assumes nothing.
use mathlib.Core.Path.{sym}
use native.Mathlib.Omega.{arith}
use Rattle.std.proofs.lemmas.Result.{err_from_is_err_and}
use Rattle.format.proofs.Answers.{answered-by}
use Rattle.mark_questions.proofs.Lists.{none-mark}
use Rattle.desk.proofs.Desk.marked.Goals as goal

pub returns-in_err-first_no : goal.returns-in_err-first_no
returns-in_err-first_no c =
    let p = err_from_is_err_and c.from_residual.result c.from_residual.ensures.1 in
    rw (p.1, p.2) (answered-by _ _ _ c.in_err-first_no.ensures tt)

pub overflow_add-result : goal.overflow_add-result
overflow_add-result c =
    let few = ((none-mark _ _ _ _).is (sym c.in_ok-first_no.ensures)).1.0 in omega arith

pub verdict_of-requires : goal.verdict_of-requires
verdict_of-requires c = ((none-mark _ _ _ _).is (sym c.in_ok-first_no.ensures)).0.1.counted

pub returns : goal.returns
returns c = answered-by _ _ _ c.in_ok-first_no.ensures (rw c.verdict_of.ensures)
