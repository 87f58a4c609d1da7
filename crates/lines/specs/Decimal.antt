-- What a number in decimal is. proofs/Decimal.antt shows that `decimal` gives it. Assumes nothing.
use Rattle.std.specs.Prelude.{◌≡◌, List, ℕ, ◌≤◌, ◌<◌, length, get_or}
use Rattle.lines.specs.Text.{read_decimal}

-- THE NUMBER IN DECIMAL: the list l is the number n, read back, in digits alone and without leading zeros.
pub record InDecimal (n : ℕ) (l : List ℕ) : Type 0 where
  pub reads : read_decimal l ≡ n
  pub some : 1 ≤ length l
  pub digits : (i : ℕ) → i < length l → (48 ≤ get_or l i 0) × (get_or l i 0 ≤ 57)
  pub no-leading-zero : 2 ≤ length l → 49 ≤ get_or l 0 0
