-- Numbers of 64 bits in an array of 16-bit cells: the number at place i stands in the four cells from 4·i on, low cell first.
-- Assumes nothing.
use Rattle.std.specs.Prelude.{List, [], ◌∷◌, ℕ, ◌+◌, ◌*◌, ◌/◌, ◌%◌, ◌<◌, get_or, set}

-- The number at place i.
unfoldable pub value_at : List ℕ → ℕ → ℕ
value_at t i = get_or t (i * 4) 0 + get_or t (i * 4 + 1) 0 * 65536 + get_or t (i * 4 + 2) 0 * 4294967296 + get_or t (i * 4 + 3) 0 * 281474976710656

-- The four cells of x.
abbrev pub cells_of : ℕ → List ℕ
cells_of x = x % 65536 ∷ x / 65536 % 65536 ∷ x / 4294967296 % 65536 ∷ x / 281474976710656 ∷ []

-- The list with x at place i.
unfoldable pub with_value : List ℕ → ℕ → ℕ → List ℕ
with_value t i x =
    set (set (set (set t (i * 4) (x % 65536)) (i * 4 + 1) (x / 65536 % 65536)) (i * 4 + 2) (x / 4294967296 % 65536))
    (i * 4 + 3) (x / 281474976710656)

-- Four cells from k on, stored in order: each is read back, and no other is disturbed.
abbrev pub four : List ℕ → ℕ → ℕ → ℕ → ℕ → ℕ → List ℕ
four t k a b c d = set (set (set (set t k a) (k + 1) b) (k + 2) c) (k + 3) d

-- The four cells from k on are 16-bit numbers.
pub record FourSmall (t : List ℕ) (k : ℕ) : Type 0 where
  pub first : get_or t k 0 < 65536
  pub second : get_or t (k + 1) 0 < 65536
  pub third : get_or t (k + 2) 0 < 65536
  pub fourth : get_or t (k + 3) 0 < 65536
