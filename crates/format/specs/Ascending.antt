-- An ascending list of positions below n. Assumes nothing.
use Rattle.std.specs.Prelude.{Bool, true, ◌&&◌, List, [], ◌∷◌, ℕ, ltb}

-- Position i is below the next one, the first of the list, where there is one.
abbrev pub below_next : ℕ → List ℕ → Bool
below_next i [] = true
below_next i (j ∷ l) = ltb i j

-- "Is each inside position below n and above the one before it?", and of a list that is marked "strictly ascending".
unfoldable pub ascending : ℕ → List ℕ → Bool
ascending n [] = true
ascending n (i ∷ l) = ltb i n && (below_next i l && ascending n l)
