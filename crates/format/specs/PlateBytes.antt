-- Lists of bytes. "its position and its margin column, a byte each": proofs/PlateBytes.antt shows that a plate's numbers are bytes if the
-- sheet's are. Assumes nothing.
use Rattle.std.specs.Prelude.{List, [], ◌∷◌, ℕ, ◌<◌}

-- BYTES

-- Every number of the list is below 256.
abbrev pub Bytes : List ℕ → Type 0
Bytes [] = Unit {0}
Bytes (x ∷ l) = (x < 256) × Bytes l
