-- What a rank list without a no is. Assumes nothing.
use Rattle.std.specs.Prelude.{◌≡◌, List, ℕ, ◌+◌, ◌<◌, length, get_or, Option, None, Some}
use Rattle.format.specs.RankList.{rank_in}
use Rattle.format.specs.Accepted.{UpTo}

-- 62: the count byte is there and is n, and n bytes follow it.
abbrev pub RankCount : ℕ → List ℕ → Type 0
RankCount n r = (0 < length r) × ((get_or r 0 0 ≡ n) × (length r ≡ 1 + n))

-- "a count byte n, then n ranks from 1 to 9", or no list
unfoldable pub RightRanks : ℕ → Option (List ℕ) → Type 0
RightRanks n None = Unit {0}
RightRanks n (Some r) = RankCount n r × (((i : ℕ) → i < n → UpTo 9 (rank_in (Some r) i)) × Unit {0})
