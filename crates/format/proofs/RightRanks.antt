-- What a rank list without a no is. Assumes nothing.
use Rattle.std.specs.Prelude.{List, ℕ, ◌+◌, ◌<◌, length, get_or, Option, None, Some}
use Rattle.std.proofs.Common.{arith}
use Rattle.labeling.proofs.Decide.{Decides, dec-lt, dec-eq, dec-and}
use Rattle.labeling.proofs.Tests.{dec-every}
use Rattle.format.specs.RankList.{rank_in, rank_count_right, ranks_allowed, ranks_no}
use Rattle.format.specs.Accepted.{UpTo, NoneOf}
use Rattle.format.proofs.Accepted.{none-ask, none_left, dec-up_to}
use Rattle.format.specs.RightRanks.{RankCount, RightRanks}

pub dec-rank-count : (n : ℕ) (r : List ℕ) → Decides (rank_count_right n r) (RankCount n r)
unfolding rank_count_right
dec-rank-count n r = dec-and (dec-lt 0 (length r)) (dec-and (dec-eq (get_or r 0 0) n) (dec-eq (length r) (1 + n)))

pub none-ranks : (n : ℕ) (r : Option (List ℕ)) → NoneOf (ranks_no n r) (RightRanks n r)
unfolding ranks_no RightRanks ranks_allowed
none-ranks n None = none_left
none-ranks n (Some r) =
    none-ask 62 (omega arith) (dec-rank-count n r)
    (none-ask 63 (omega arith) (dec-every _ (λ i. UpTo 9 (rank_in (Some r) i)) n (λ i. dec-up_to 9 (rank_in (Some r) i))) none_left)

-- no list is right
pub none_right : (n : ℕ) → RightRanks n None
unfolding RightRanks
none_right n = tt

-- each rank is 1 to 9, with or without a list
pub ranks-up-to : (n : ℕ) (r : Option (List ℕ)) → RightRanks n r → (i : ℕ) → i < n → UpTo 9 (rank_in r i)
unfolding RightRanks rank_in
ranks-up-to n None a i l = (omega arith, omega arith)
ranks-up-to n (Some r) a i l = a.1.0 i l
