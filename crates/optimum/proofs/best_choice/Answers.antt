-- `optimum::best_choice` meets its contract. Assumes nothing.
use Rattle.std.proofs.Common.{◌≡◌, Err, sym, arith, rules}
use Rattle.format.proofs.Accepted.{none-sheet}
use Rattle.format.proofs.MakingQuestions.{none-asked}
use Rattle.optimum.proofs.Chosen.{refused-choosing, chosen-choosing}
use Rattle.optimum.proofs.best_choice.Goals as goal

pub returns-in_err-heights : goal.returns-in_err-heights
returns-in_err-heights c =
    let e : c.from_residual.result ≡ Err c.in_err-heights.field-0.0 = search rules in
    rw e (refused-choosing _ _ _ _ _ c.in_err-heights.ensures.no)

pub chosen-requires : goal.chosen-requires
chosen-requires c =
    let points = c.in_ok-heights.ensures in
    let f = (none-asked _ _ _ _).is (sym points.no) in
    ((none-sheet _).of f.0.0, (_, points.ordered), omega (arith, f.0.1.1.0))

pub returns : goal.returns
returns c =
    let points = c.in_ok-heights.ensures in
    chosen-choosing _ _ _ _ _ _ (sym points.no) c.chosen.ensures.1 (c.chosen.ensures.0 _ points.ordered)
