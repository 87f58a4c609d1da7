-- `orders::both_orders` meets its contract: the calls in turn. Assumes nothing.
use Rattle.std.proofs.Common.{◌∙◌, option_copied}
use Rattle.format.specs.RankList.{rank_in}
use Rattle.orders.specs.HeightOrder.{Fit}
use Rattle.orders.proofs.Fits.{accepted-fits}
use Rattle.orders.proofs.BothOrders.{right-ready, both-orders}
use Rattle.orders.proofs.both_orders.Goals as goal
use Rattle.orders.proofs.both_orders.Goals.{Start}

-- the sheet is accepted, and the rank list right
fits : (c : Start) → Fit (rank_in (option_copied c.args.ranks)) c.args.sheet.now
fits c = accepted-fits c.args.sheet.now _ c.requires.0 c.requires.1

pub write_points-requires : goal.write_points-requires
write_points-requires c = fits (goal.at.write_points-requires c).Start

pub write_right_order-requires : goal.write_right_order-requires
write_right_order-requires c =
    rw (c.from.ensures ∙ c.point_count.ensures)
    (right-ready (fits (goal.at.write_right_order-requires c).Start)
    c.write_numbers.ensures c.write_points.ensures)

pub returns : goal.returns
returns c =
    let right = rw (c.from.ensures ∙ c.point_count.ensures) at c.write_right_order.ensures in
    both-orders (fits (goal.at.returns c).Start)
    c.write_numbers.ensures c.write_points.ensures right
