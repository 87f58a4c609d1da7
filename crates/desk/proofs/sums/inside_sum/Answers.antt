-- `desk::sums::inside_sum` meets its contract. Assumes nothing.
use mathlib.Core.List.{List}
use Prim.Native.Nat.{ℕ, ◌≤◌}
use lib.ListN.{length, drop, length-take}
use native.Mathlib.Omega.{arith}
use Rattle.format.specs.Sheet.{sheet_length}
use Rattle.plate_reader.specs.PlateQuestions.{inside_count, inside_start, inside_list}
use Rattle.desk.proofs.sums.inside_sum.Goals as goal

-- there are no more inside positions than the count says
few-inside : (p : List ℕ) → length (inside_list p) ≤ inside_count p
unfolding inside_list
few-inside p = omega (arith, length-take (inside_count p) (drop (inside_start p) p))

pub sum_of-requires : goal.sum_of-requires
sum_of-requires c =
    let p = c.args.plate.now in
    rw c.inside_positions.ensures.holds (omega (arith, few-inside p, c.type_inv.plate (sheet_length p)))
