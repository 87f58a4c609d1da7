-- `orders::ordered_points` meets its contract. Assumes nothing.
use Rattle.std.proofs.Common.{sym}
use Rattle.format.proofs.Accepted.{none-sheet}
use Rattle.format.proofs.RightRanks.{none-ranks}
use Rattle.format.proofs.MakingQuestions.{none-asked}
use Rattle.orders.proofs.ordered_points.Goals as goal

pub both_orders-requires : goal.both_orders-requires
both_orders-requires c =
    let a = (none-asked _ _ _ _).is (sym c.in_ok-asked_no.ensures) in
    ((none-sheet _).of a.0.0, (none-ranks _ _).of a.1)
