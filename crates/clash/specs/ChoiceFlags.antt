-- A choice as 256 flags, one for each position that a byte can name. Assumes nothing.
use Rattle.std.specs.Prelude.{Bool, false, List, [], ◌∷◌, ◌++◌, ℕ, zero, suc, get_or, replicate}
use Rattle.labeling.specs.Points.{Choice}
use Rattle.format.specs.Plate.{choice_of}

-- No position is inside.
unfoldable pub nobody_inside : List Bool
nobody_inside = replicate 256 false

-- The choice that the flags hold.
abbrev pub held : List Bool → Choice
held flags i = get_or flags i false

-- The flags of the positions below m: whether each is inside.
unfoldable pub flags_below : Choice → ℕ → List Bool
flags_below S zero = []
flags_below S (suc m) = flags_below S m ++ S m ∷ []

-- The flags of the choice that a list stands for.
abbrev pub flags_of : List ℕ → List Bool
flags_of list = flags_below (choice_of list) 256
