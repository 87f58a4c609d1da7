-- A text put into a buffer from a place on. Assumes nothing.
use Rattle.std.specs.Prelude.{◌≡◌, List, ℕ, ◌+◌, ◌≤◌, length}
use Rattle.format.specs.Written.{written}

-- The text l, of at most `room` bytes, is put from the place `at` on, and `next` is the place after it.
pub record Put (room : ℕ) (o : List ℕ) (at : ℕ) (l : List ℕ) (next : ℕ) (o' : List ℕ) : Type 0 where
  pub fits : length l ≤ room
  pub next-is : next ≡ at + length l
  pub text-is : o' ≡ written o at l
