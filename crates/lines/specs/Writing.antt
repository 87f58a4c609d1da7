-- What a call that writes a text leaves in the lent buffer. Assumes nothing.
use Rattle.std.specs.Prelude.{◌≡◌, cond, List, ◌++◌, ℕ, ◌+◌, ◌≤◌, leb, length}
use Rattle.format.specs.Sheet.{point_count}
use Rattle.format.specs.Written.{written_if_room}
use Rattle.lines.specs.Rooms.{listing_room}
use Rattle.lines.specs.Listing.{listing_of}

-- THE PROMISE of a public call that writes the text l into the buffer o: it answers the text's length and the text stands at the start
-- of the buffer, the bytes past it untouched; or the buffer is too short, nothing is written, and it answers 0. No text is empty
-- (proofs/NotEmpty.antt), so 0 says nothing else. A buffer of `room` bytes isn't too short.
pub record Prints (room : ℕ) (l o : List ℕ) (answer : ℕ) (o' : List ℕ) : Type 0 where
  pub fits : length l ≤ room
  pub answer-is : answer ≡ cond (leb (length l) (length o)) (length l) 0
  pub buffer-is : o' ≡ written_if_room o 0 l

-- THE PROMISE of `listing`, of the plate p.
abbrev pub PrintsListing : List ℕ → List ℕ → ℕ → List ℕ → Type 0
PrintsListing p o answer o' = Prints (listing_room (point_count p)) (listing_of p) o answer o'

-- The bytes l, at most `room` of them, are added to the text t.
pub record Added (room : ℕ) (l t t' : List ℕ) : Type 0 where
  pub text-is : t' ≡ t ++ l
  pub fits : length t' ≤ length t + room
