-- The array of a sheet, ready for the table. Assumes nothing.
use Rattle.std.specs.Prelude.{ℕ, List}
use Rattle.recurrence.specs.Positions.{Arranged}
use Rattle.format.specs.Sheet.{points_of}
use Rattle.orders.specs.Arrays.{heights_of, position_at}
use Rattle.orders.specs.Given.{weight_of, permitted}
use Rattle.optimum.specs.Packed.{Packed}

-- WHAT THE PREPARATION GIVES: an array as the table asks for it, of the sheet's points in height order, with their
-- weights by these ranks and their permissions.
pub record Prepared (rank : ℕ → ℕ) (sheet s : List ℕ) : Type 0 where
  pub packed : Packed s
  pub arranged : Arranged (points_of sheet) (weight_of rank) (permitted sheet) (heights_of s) (position_at s)
