-- The facts that the tests of Recurrence.antt test. proofs/RecurrenceTests.antt shows that the tests decide them, and has one equation for
-- each branch of the recursions. Assumes nothing.
use Rattle.std.specs.Prelude.{◌≡◌, true}
use Prim.Native.Nat.{ℕ, ◌+◌, ◌≤◌, ◌<◌}
use Rattle.recurrence.specs.Recurrence.{Heights, Point, Overlap}
use Rattle.recurrence.specs.Recurrence.{reach, may_be_inside, rows_differ}
use Rattle.recurrence.specs.Recurrence.{value}

-- THE TESTS OF RECURRENCE.ANTT

-- p is strictly between a and b.
pub record Between (a p b : ℕ) : Type 0 where
  pub low : a < p
  pub high : p < b

-- The point i below p has a label that reaches over p's row, on the right of p.
pub record Reaches (H : Heights) (p i : ℕ) : Type 0 where
  pub low : 1 ≤ i
  pub high : i < p
  pub over : H.row p < H.row i + H.h
  pub right : H.column p < H.column i
  pub near : H.column i < H.column p + H.w

-- What `reach` gives: a point above a that reaches over p; or q, which does; or 0.
pub data Reached (H : Heights) (a p q r : ℕ) : Type 0 where
  newer : Reaches H p r → a < r → Reached H a p q r
  older : Reaches H p q → r ≡ q → Reached H a p q r
  nobody : r ≡ 0 → Reached H a p q r

-- The point of rank t may be inside in the slab (a, b, q).
pub record MayBeInside (H : Heights) (t a b q : ℕ) : Type 0 where
  pub allowed : H.allowed (H.at_rank t) ≡ true
  pub top : b ≤ H.n → H.row (H.at_rank t) + H.h ≤ H.row b
  pub label : 1 ≤ q → Overlap H (H.at_rank t) q → ⊥
  pub others : (j : ℕ) → Point H j → a < j → j < b → t < H.rank j → Overlap H (H.at_rank t) j → ⊥

-- The point of rank t can be outside: it isn't in b's row, and both parts have a choice.
pub record CanOut (H : Heights) (t a b q : ℕ) : Type 0 where
  pub differ : rows_differ H (H.at_rank t) b ≡ true
  pub low : 1 ≤ value H t a (H.at_rank t) q
  pub high : 1 ≤ value H t (H.at_rank t) b (reach H a (H.at_rank t) q)

-- The point of rank t can be inside: it may be, and the others have a choice.
pub record CanIn (H : Heights) (t a b q : ℕ) : Type 0 where
  pub may-be-inside : may_be_inside H t a b q ≡ true
  pub rest : 1 ≤ value H t a b q
