-- `orders::given::tie_break` meets its contract. Assumes nothing.
use Rattle.std.proofs.Common.{arith}
use Rattle.recurrence.proofs.TieBreak.{tie-shifted, tie-most}
use Rattle.orders.proofs.given.tie_break.Goals as goal

pub returns : goal.returns
returns c = let e = tie-shifted c.args.position c.requires in (e, omega (arith, e, tie-most c.args.position))
