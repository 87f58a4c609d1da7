-- An accepted sheet and a right rank list, or none, fit the array. Assumes nothing.
use Rattle.std.specs.Prelude.{◌≡◌, List, ℕ, Option}
use Rattle.std.proofs.Common.{arith}
use Rattle.format.specs.Sheet.{sheet_no, point_count}
use Rattle.format.specs.RankList.{rank_in, ranks_no}
use Rattle.format.proofs.RightRanks.{none-ranks, ranks-up-to}
use Rattle.format.proofs.Accepted.{accepted}
use Rattle.orders.specs.HeightOrder.{Fit}

pub accepted-fits : (s : List ℕ) (l : Option (List ℕ)) → sheet_no s ≡ 0 → ranks_no (point_count s) l ≡ 0 → Fit (rank_in l) s
accepted-fits s l e q =
    let p = (accepted s e).proper in
    record {
      few = p.few;
      wide = p.label-width.0;
      high = p.label-height.0;
      column-below = λ i b. omega (arith, p.on-map i b, p.map-width);
      row_below = λ i b. omega (arith, p.on-map i b, p.map-height);
      pixels-apart = p.pixels.apart;
      ranks-most = λ i b. (ranks-up-to (point_count s) l ((none-ranks (point_count s) l).is q) i b).1;
    }
