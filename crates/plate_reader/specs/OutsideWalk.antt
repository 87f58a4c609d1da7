-- Question 43 without a list of the outside points: the bytes are walked pair by pair, each held against the one before it.
-- proofs/OutsideWalk.antt shows that where there are as many pairs as outside points, the walk says just what 43 asks. Assumes nothing.
use Rattle.std.specs.Prelude.{◌≡◌, Bool, true, false, not, ◌&&◌, ℕ, ◌<◌, ltb, eqb}
use mathlib.Core.List.{List, [], ◌∷◌}
use Rattle.labeling.specs.Points.{Points, Choice, before, next_margin, placed_from, placed, among}
use Rattle.labeling.specs.Order.{Ordered}
use Rattle.format.specs.Plate.{pairs}

-- THE WALK

-- Position i is an outside point.
abbrev pub outside_point : Points → Choice → ℕ → Bool
outside_point P S i = ltb i P.n && not (S i)

-- Position i in margin column m may follow position j in margin column k: it is an outside point, stands after j, and has the margin
-- column that the rule gives next.
abbrev pub pair_follows : Points → Choice → ℕ → ℕ → ℕ → ℕ → Bool
pair_follows P S j k i m = outside_point P S i && (before P j i && eqb m (next_margin P j k i))

-- The pairs after position j in margin column k: each follows the one before it.
unfoldable pub pairs_after : Points → Choice → ℕ → ℕ → List ℕ → Bool
pairs_after P S j k [] = true
pairs_after P S j k (i ∷ []) = false
pairs_after P S j k (i ∷ m ∷ l) = pair_follows P S j k i m && pairs_after P S i m l

-- All the pairs: "The first takes column 0."
unfoldable pub pairs_follow : Points → Choice → List ℕ → Bool
pairs_follow P S [] = true
pairs_follow P S (i ∷ []) = false
pairs_follow P S (i ∷ m ∷ l) = outside_point P S i && (eqb m 0 && pairs_after P S i m l)

-- ORDERED LISTS

-- each member of l is one of k
abbrev pub Within : List ℕ → List ℕ → Type 0
Within l k = (x : ℕ) → among x l ≡ true → among x k ≡ true

-- WHAT THE WALK SAYS

-- Each position of the list is an outside point.
abbrev pub Outsiders : Points → Choice → List ℕ → Type 0
Outsiders P S l = (x : ℕ) → among x l ≡ true → (x < P.n) × (S x ≡ false)

-- The bytes b are the pairs of outside points in order, with the margin columns, that come after position j in margin column k.
pub record After (P : Points) (S : Choice) (j k : ℕ) (b : List ℕ) : Type 0 where
  pub positions : List ℕ
  pub ordered : Ordered P (j ∷ positions)
  pub outsiders : Outsiders P S positions
  pub is : j ∷ k ∷ b ≡ pairs (placed_from P j k positions)

-- The bytes b are the pairs of outside points in order, with the margin columns.
pub record Walked (P : Points) (S : Choice) (b : List ℕ) : Type 0 where
  pub positions : List ℕ
  pub ordered : Ordered P positions
  pub outsiders : Outsiders P S positions
  pub is : b ≡ pairs (placed P positions)
