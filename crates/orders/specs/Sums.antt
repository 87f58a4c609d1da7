-- Triangular and tetrahedral numbers. Assumes nothing.
use Rattle.std.specs.Prelude.{ℕ, zero, suc, ◌+◌}

-- The sum of the numbers below a.
unfoldable pub tri : ℕ → ℕ
tri zero = 0
tri (suc a) = tri a + a

-- The sum of the triangular numbers below b.
unfoldable pub tet : ℕ → ℕ
tet zero = 0
tet (suc b) = tet b + tri b
