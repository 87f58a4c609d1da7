-- Of two outside points the one that stands before the other is in no lower row. Assumes nothing.
use Rattle.std.specs.Prelude.{◌≡◌, true, ℕ, ◌≤◌, ◌<◌, ltb, eqb}
use Rattle.std.proofs.Common.{ltb-true, eqb-true, arith}
use Rattle.labeling.specs.Points.{Points, before}
use Rattle.labeling.proofs.Decide.{not-both, decide}

-- what the order says of rows
pub before-is : (P : Points) (i j : ℕ) → before P i j ≡ true → P.row j ≤ P.row i
unfolding before
before-is P i j e =
    decide (ltb (P.row j) (P.row i))
    (λ k. let l : P.row j < P.row i = ltb-true _ _ k in omega arith)
    (λ k. decide (eqb (P.row j) (P.row i)) (λ m. let q : P.row j ≡ P.row i = eqb-true _ _ m in omega arith)
    (λ m. absurd (not-both e (rw (k, m)))))
