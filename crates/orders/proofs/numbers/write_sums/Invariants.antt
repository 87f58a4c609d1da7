use Rattle.std.proofs.Common.{◌≡◌, ◌+◌}
use Rattle.orders.specs.Layout.{triangular_field, tetrahedral_field}
use Rattle.orders.specs.Cells.{BothWritten}
use Rattle.orders.specs.Sums.{tri, tet}
use Rattle.orders.proofs.numbers.write_sums.Given as goal

abbrev pub invariant-loop-k : goal.invariant-loop-k
invariant-loop-k l =
    (l.triangular ≡ tri l.k) × (l.tetrahedral ≡ tet l.k)
    × BothWritten (λ i. triangular_field + i) tri (λ i. tetrahedral_field + i) tet l.k l.initial.heights l.heights
