-- The first clash of a choice and its kind (document 01, "The desk", and document 02 (a) and (c)), by tests on any points and any choice.
-- proofs/ClashPixels.antt shows that on an accepted sheet it is the first of the labels that leave the map and the pairs of points that
-- mark one pixel. Assumes nothing.
use Rattle.std.specs.Prelude.{Bool, true, false, cond, not, ℕ, zero, suc, ltb, eqb, Option, None, Some}
use Rattle.labeling.specs.Points.{Points, Choice}
use Rattle.labeling.specs.Marks.{label_on_map_b}
use Rattle.labeling.specs.Conflicts.{overlap_b, hits_b}
use Rattle.clash.specs.declared.ClashKind.{ClashKind}
use Rattle.clash.specs.declared.ClashKind.TheVariants.{Labels, LabelAndLeader, Overhang, TwoLeaders}
use Rattle.clash.specs.declared.Clash.{Clash}

-- There is a clash.
abbrev pub is_clash : Option Clash → Bool
is_clash None = false
is_clash (Some c) = true

-- The first of two: the earlier one, and the later one where the earlier is none.
abbrev pub or_else : Option Clash → Option Clash → Option Clash
or_else None later = later
or_else (Some c) later = Some c

-- The clash of i and j by the kind k.
abbrev pub between : ℕ → ℕ → ClashKind → Option Clash
between i j k = Some (record { first = i; second = j; kind = k })

-- The same, where the test says that they clash.
abbrev pub clash_if : Bool → ℕ → ℕ → ClashKind → Option Clash
clash_if met i j k = cond met (between i j k) None

-- "Two inside points clash by their labels, an inside and an outside point by label and leader." And document 02 (c): "Two leaders in one
-- row share pixels", so "a mark can name two leaders as its clash".
unfoldable pub pair_clash : Points → Choice → ℕ → ℕ → Option Clash
pair_clash P S i j =
    cond (S i)
    (cond (S j) (clash_if (overlap_b P i j) i j Labels) (clash_if (hits_b P i j) i j LabelAndLeader))
    (cond (S j) (clash_if (hits_b P j i) i j LabelAndLeader) (clash_if (eqb (P.row i) (P.row j)) i j TwoLeaders))

-- Document 02 (a): "an overhang counts as a clash of a position with itself and gets its own kind". Only an inside label overhangs.
unfoldable pub own_clash : Points → Choice → ℕ → Option Clash
own_clash P S i = cond (S i) (clash_if (not (label_on_map_b P i)) i i Overhang) None

-- The first clash among f 0, f 1, and so on to f (m - 1).
unfoldable pub first_of : (ℕ → Option Clash) → ℕ → Option Clash
first_of f zero = None
first_of f (suc m) = or_else (first_of f m) (f m)

-- "first below second": the clash of i with j, where i is below j.
abbrev pub ordered_clash : Points → Choice → ℕ → ℕ → Option Clash
ordered_clash P S i j = cond (ltb i j) (pair_clash P S i j) None

-- The clash of position i with "the smallest second" above it.
unfoldable pub later_clash : Points → Choice → ℕ → Option Clash
later_clash P S i = first_of (ordered_clash P S i) P.n

-- The clash of position i with the smallest second. An overhang "takes part in the order of clashes, first and second position being
-- equal": i itself comes before the positions above it.
unfoldable pub clash_of : Points → Choice → ℕ → Option Clash
clash_of P S i = or_else (own_clash P S i) (later_clash P S i)

-- "The clash named is the pair with the smallest first position, then the smallest second, first below second." Of an overhang the two are
-- equal.
unfoldable pub first_clash : Points → Choice → Option Clash
first_clash P S = first_of (clash_of P S) P.n
