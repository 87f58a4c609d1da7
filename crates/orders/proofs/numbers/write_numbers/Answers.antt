-- `orders::numbers::write_numbers` meets its contract: each call leaves the cells of the others as they are. Assumes nothing.
use Rattle.std.proofs.Common.{◌≡◌, ◌∙◌, ap}
use Rattle.orders.specs.Numbers.{blank_of, counted}
use Rattle.orders.proofs.NumbersLaws.{numbers-made}
use Rattle.orders.proofs.numbers.write_numbers.Goals as goal
use Rattle.orders.proofs.numbers.write_numbers.Goals.{After-write_counts}

-- After the first call.
first : (c : After-write_counts) → c.write_counts.new.heights ≡ counted c.args.sheet.now blank_of
first c = c.write_counts.ensures ∙ ap (counted c.args.sheet.now) c.requires

pub returns : goal.returns
returns c = numbers-made _ _ _ (first (goal.at.returns c).After-write_counts) c.write_sums.ensures
