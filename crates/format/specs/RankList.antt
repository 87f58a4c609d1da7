-- The rank list that may be lent beside a sheet (document 02 (e)): "a count byte n, then n ranks from 1 to 9". A byte past its end reads 0.
-- Assumes nothing.
use Rattle.std.specs.Prelude.{Bool, ◌&&◌, List, ℕ, ◌+◌, ltb, eqb, length, get_or, Option, None, Some}
use Rattle.labeling.specs.Conflicts.{every}
use Rattle.format.specs.Sheet.{ask, up_to}

-- The rank of position i. "Without a list every rank is 1."
unfoldable pub rank_in : Option (List ℕ) → ℕ → ℕ
rank_in None i = 1
rank_in (Some r) i = get_or r (1 + i) 0

-- "62 if the count byte is missing, isn't n, or the length isn't 1 + n": none of these.
unfoldable pub rank_count_right : ℕ → List ℕ → Bool
rank_count_right n r = ltb 0 (length r) && (eqb (get_or r 0 0) n && eqb (length r) (1 + n))

-- "63 for a rank outside 1 to 9": there is none.
unfoldable pub ranks_allowed : ℕ → List ℕ → Bool
ranks_allowed n r = every (λ i. up_to 9 (rank_in (Some r) i)) n

-- "62 first": the first no of a list lent beside a sheet of n points, 0 if there is none, or no list.
unfoldable pub ranks_no : ℕ → Option (List ℕ) → ℕ
ranks_no n None = 0
ranks_no n (Some r) = ask (rank_count_right n r) 62 (ask (ranks_allowed n r) 63 0)
