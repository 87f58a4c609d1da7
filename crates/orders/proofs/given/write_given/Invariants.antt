use Rattle.std.proofs.Common.{option_copied}
use Rattle.format.specs.RankList.{rank_in}
use Rattle.orders.specs.GivenCells.{GivenCells}
use Rattle.orders.proofs.given.write_given.Given as goal

abbrev pub invariant-loop-k : goal.invariant-loop-k
invariant-loop-k l = GivenCells (rank_in (option_copied l.ranks)) l.sheet l.k l.initial.heights l.heights
