-- A plate of two lists of positions, and its outside section pair by pair. Assumes nothing.
use Rattle.std.specs.Prelude.{◌≡◌, Option, None, Some, MatchOption, List, [], ◌∷◌, ◌++◌, ℕ, ◌+◌, ◌*◌, ◌≤◌, length}
use Rattle.labeling.specs.Points.{Points, Placed, next_margin, placed_from, placed}
use Rattle.format.specs.Sheet.{points_of}
use Rattle.format.specs.Plate.{pairs}
use Rattle.format.specs.Written.{written}
use Rattle.format.specs.declared.Pair.{Pair}

-- The outside section of a list of outside positions.
unfoldable pub section_of : Points → List ℕ → List ℕ
section_of P l = length l ∷ pairs (placed P l)

-- The plate of a sheet with these inside and outside positions.
unfoldable pub plate_of_lists : (s inside outside : List ℕ) → List ℕ
plate_of_lists s inside outside = s ++ (length inside ∷ inside) ++ section_of (points_of s) outside

-- The margin column of position i, which comes next after the outside position `last` in its margin column, if there is one.
unfoldable pub margin_after : Points → Option Pair → ℕ → ℕ
margin_after P None i = 0
margin_after P (Some p) i = next_margin P p.position p.margin i

-- The positions of a list with their margin columns, where the list comes next after `last`.
unfoldable pub placed_after : Points → Option Pair → List ℕ → List Placed
placed_after P last [] = []
placed_after P last (i ∷ l) = placed_from P i (margin_after P last i) l

-- The pairs written so far. Of `whole`, the outside section's pairs, `done` are written into d from the place `at` on, which makes it
-- `output`; they are `count` pairs, the last of them `last`; the positions `left` are still to come.
pub record SoFar (P : Points) (whole d : List ℕ) (at all : ℕ) (left : List ℕ) (count : ℕ) (last : Option Pair) (output : List ℕ) : Type 0 where
  pub done : List ℕ
  pub is : output ≡ written d at done
  pub twice : length done ≡ 2 * count
  pub rest : done ++ pairs (placed_after P last left) ≡ whole
  pub total : count + length left ≡ all
  pub small : MatchOption last Unit (λ p. p.margin ≤ count)
