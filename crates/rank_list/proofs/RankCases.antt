-- Rank lists with the number of their first no, beside a sheet of n points: one table, one theorem (document 02 (e)). Assumes nothing.
use Rattle.std.specs.Prelude.{◌≡◌, refl, Bool, true, ◌&&◌, List, [], ◌∷◌, ℕ, eqb, Option, None, Some}
use Rattle.std.proofs.Common.{eqb-true}
use Rattle.labeling.specs.Conflicts.{every}
use Rattle.labeling.proofs.Decide.{and_left, and_right}
use Rattle.format.specs.RankList.{rank_in, rank_count_right, ranks_allowed, ranks_no}

-- A number of points, what is lent, and the number of its first no, 0 for none.
pub record Row : Type 0 where
  pub points : ℕ
  pub ranks : Option (List ℕ)
  pub no : ℕ

-- the list r beside a sheet of n points
abbrev pub list : ℕ → ℕ → List ℕ → Row
list k n r = record { points = n; ranks = Some r; no = k }

abbrev pub table : List Row
table =
    -- no list; a right one; one that is lent for no point
    record { points = 2; ranks = None; no = 0 } ∷ list 0 2 (2 ∷ 1 ∷ 9 ∷ []) ∷ list 0 0 (0 ∷ []) ∷
    -- "62 if the count byte is missing", with points and without
    list 62 2 [] ∷ list 62 0 [] ∷
    -- "isn't n": one less; one more; though as many ranks follow as it says
    list 62 2 (1 ∷ 1 ∷ 9 ∷ []) ∷ list 62 2 (3 ∷ 1 ∷ 9 ∷ []) ∷ list 62 2 (1 ∷ 1 ∷ []) ∷ list 62 0 (1 ∷ 1 ∷ []) ∷
    -- "or the length isn't 1 + n": one less; one more
    list 62 2 (2 ∷ 1 ∷ []) ∷ list 62 2 (2 ∷ 1 ∷ 9 ∷ 1 ∷ []) ∷ list 62 0 (0 ∷ 1 ∷ []) ∷
    -- "63 for a rank outside 1 to 9": 0 and 10, first and last; 255
    list 63 2 (2 ∷ 0 ∷ 5 ∷ []) ∷ list 63 2 (2 ∷ 5 ∷ 0 ∷ []) ∷ list 63 2 (2 ∷ 10 ∷ 5 ∷ []) ∷ list 63 2 (2 ∷ 5 ∷ 10 ∷ []) ∷
    list 63 1 (1 ∷ 255 ∷ []) ∷
    -- "62 first": a rank 0 in a list that is too long; a rank 10 after another count; the rank that is missing isn't read as 0
    list 62 2 (2 ∷ 0 ∷ 5 ∷ 5 ∷ []) ∷ list 62 2 (3 ∷ 10 ∷ 5 ∷ []) ∷ list 62 2 (2 ∷ 5 ∷ []) ∷ []

abbrev pub Each : List Row → Type 0
Each [] = Unit {0}
Each (r ∷ rs) = (ranks_no r.points r.ranks ≡ r.no) × Each rs

abbrev each_b : List Row → Bool
each_b [] = true
each_b (r ∷ rs) = eqb (ranks_no r.points r.ranks) r.no && each_b rs

each : (rs : List Row) → each_b rs ≡ true → Each rs
each [] e = tt
each (r ∷ rs) e = (eqb-true _ _ (and_left _ _ e), each rs (and_right (eqb (ranks_no r.points r.ranks) r.no) _ e))

-- THE TABLE'S THEOREM
pub all-numbered : Each table
unfolding rank_in every rank_count_right ranks_allowed ranks_no
all-numbered = each table refl
