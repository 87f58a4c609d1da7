-- The theorems on the definitions of specs/Given.antt. Assumes nothing.
use Rattle.std.specs.Prelude.{◌≡◌, refl, Bool, true, false, List, ℕ, ◌+◌, ◌*◌, ◌≤◌, eqb}
use Rattle.std.proofs.Common.{arith}
use Rattle.std.specs.Int.{from_bool}
use Rattle.labeling.proofs.Tests.{dec-label-on-map}
use Rattle.recurrence.specs.TieBreak.{tie_break, tie_broken}
use Rattle.recurrence.proofs.TieBreak.{tie-pos, tie-most}
use Rattle.recurrence.specs.Positions.{Permits}
use Rattle.format.specs.Sheet.{points_of}
use Rattle.orders.specs.Given.{weight_of, heaviest, permitted, permission}

-- LAWS, which are all that is used of the weights and the permissions

-- As a program computes it.
pub weight_is : (rank : ℕ → ℕ) (p : ℕ) → weight_of rank p ≡ rank p * 4294967296 + tie_break p
unfolding weight_of tie_broken
weight_is rank p = refl

-- They break ties (recurrence's TieBreak.antt): a best choice by them is the preferred one by ranks.
pub weight-breaks : (rank : ℕ → ℕ) → weight_of rank ≡ tie_broken rank
unfolding weight_of
weight-breaks rank = refl

pub weight-some : (rank : ℕ → ℕ) (p : ℕ) → 1 ≤ weight_of rank p
unfolding weight_of tie_broken
weight-some rank p = omega (arith, tie-pos p)

pub weight-most : (rank : ℕ → ℕ) (p : ℕ) → rank p ≤ 9 → weight_of rank p ≤ heaviest
unfolding weight_of tie_broken
weight-most rank p l = omega (arith, tie-most p)

-- The permissions keep no valid choice out, and let no label leave the map.
pub permits : (sheet : List ℕ) → Permits (points_of sheet) (permitted sheet)
unfolding permitted
permits sheet = record {
  needed = λ S f p l e. (dec-label-on-map (points_of sheet) p).of (f.within p l e);
  enough = λ p l e. (dec-label-on-map (points_of sheet) p).is e;
}

-- A permission is the test as a number.
pub permission_is : (b : Bool) → from_bool b ≡ permission b
permission_is true = refl
permission_is false = refl

pub permission-read : (b : Bool) → eqb (permission b) 1 ≡ b
permission-read true = refl
permission-read false = refl
