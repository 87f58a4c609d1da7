use mathlib.Core.Path.{◌≡◌}
use Prim.Native.Nat.{◌≤◌}
use Rattle.format.specs.Sizes.{most_points}
use Rattle.format.specs.Padded.{padded}
use Rattle.std.specs.Prelude.{option_copied}
use Rattle.format.specs.RankList.{rank_in}
use Rattle.desk.specs.Desk.{ranks_below}
use Rattle.desk.proofs.loading.padded_ranks.Given as goal

abbrev pub invariant-loop-position : goal.invariant-loop-position
invariant-loop-position l =
    (l.position ≤ l.n) × (l.bytes ≡ padded most_points (ranks_below (rank_in (option_copied l.ranks)) l.position))
