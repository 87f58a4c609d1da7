-- A choice that follows the recovery, and what the recovery does down to a cut. proofs/Recovered.antt shows that the choice weighs the
-- value of the slab. Assumes nothing.
use Rattle.std.specs.Prelude.{◌≡◌, Bool, true, ◌&&◌, ◌||◌, ℕ, ◌≤◌, ◌<◌, ltb, leb}
use Rattle.recurrence.specs.Recurrence.{Heights, between}
use Rattle.recurrence.specs.Recurrence.{takes_in, recovered}

-- j is open: strictly between a and b, and of rank less than t.
pub record Open (H : Heights) (t a b j : ℕ) : Type 0 where
  pub low : a < j
  pub high : j < b
  pub left : H.rank j < t

-- S does with the open points as the recovery says.
pub record Follows (H : Heights) (S : ℕ → Bool) (t a b q : ℕ) : Type 0 where
  pub does : (j : ℕ) → Open H t a b j → S j ≡ recovered H t a b q j

-- DOWN TO A CUT: the recovery takes in every point between a and b of rank k or more, and less than u.
pub record TakesDown (H : Heights) (k u a b q : ℕ) : Type 0 where
  pub takes : (t : ℕ) → k ≤ t → t < u → between a (H.at_rank t) b ≡ true → takes_in H t a b q ≡ true

-- It puts just these inside, and those that it does of the others.
abbrev pub Down : (H : Heights) (k u a b q i : ℕ) → Type 0
Down H k u a b q i = recovered H u a b q i ≡ (recovered H k a b q i || (between a i b && (leb k (H.rank i) && ltb (H.rank i) u)))
