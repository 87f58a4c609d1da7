-- What proofs/ClashPixels.antt proves: on an accepted sheet the first clash is none exactly if the choice is valid, and otherwise it is
-- the first, in the documents' order, of the labels that leave the map and the pairs of points that mark one pixel, with the kind that the
-- documents give it. Assumes nothing.
use Rattle.std.specs.Prelude.{◌≡◌, true, false, ◌⊎◌, ◌↔◌, ℕ, ◌≤◌, ◌<◌, Option, None}
use Rattle.labeling.specs.Points.{Points, Choice}
use Rattle.labeling.specs.Marks.{Shared, LabelOnMap, Valid}
use Rattle.clash.specs.declared.ClashKind.{ClashKind}
use Rattle.clash.specs.declared.ClashKind.TheVariants.{Labels, LabelAndLeader, Overhang, TwoLeaders}
use Rattle.clash.specs.declared.Clash.{Clash}
use Rattle.clash.specs.FirstClash.{between, first_clash}

-- The first clash c of f is that at one number, and no smaller number has one.
pub record FirstAt (f : ℕ → Option Clash) (m : ℕ) (c : Option Clash) : Type 0 where
  pub at : ℕ
  pub below : at < m
  pub is : f at ≡ c
  pub earlier : (i : ℕ) → i < at → f i ≡ None

-- WHAT CLASHES

-- Position i is inside, and its label leaves the map.
abbrev pub Overhangs : Points → Choice → ℕ → Type 0
Overhangs P S i = (S i ≡ true) × (LabelOnMap P i → ⊥)

-- Two different positions clash if they mark one pixel. Document 02 (a): "an overhang counts as a clash of a position with itself".
abbrev pub Clashing : Points → Choice → ℕ → ℕ → Type 0
Clashing P S i j = ((i ≡ j) × Overhangs P S i) ⊎ ((i ≡ j → ⊥) × Shared P S i j)

-- What a kind says of its two positions: "whether two labels met or a label met a leader"; an overhang "gets its own kind"; and "two
-- leaders" is a kind too (document 02 (a) and (c)).
abbrev pub KindOf : ClashKind → Choice → ℕ → ℕ → Type 0
KindOf Labels S i j = (i ≡ j → ⊥) × (S i ≡ true) × (S j ≡ true)
KindOf LabelAndLeader S i j = ((S i ≡ true) × (S j ≡ false)) ⊎ ((S i ≡ false) × (S j ≡ true))
KindOf Overhang S i j = i ≡ j
KindOf TwoLeaders S i j = (i ≡ j → ⊥) × (S i ≡ false) × (S j ≡ false)

-- THE CLASH THAT THE DOCUMENTS NAME: i and j clash; k is the one kind that they have; and no two positions before them clash, by the first
-- position and then by the second.
pub record Named (P : Points) (S : Choice) (i j : ℕ) (k : ClashKind) : Type 0 where
  pub ordered : i ≤ j
  pub below : j < P.n
  pub clashing : Clashing P S i j
  pub kind : (m : ClashKind) → (k ≡ m) ↔ KindOf m S i j
  pub earlier : (a b : ℕ) → a ≤ b → b < P.n → (a < i) ⊎ ((a ≡ i) × (b < j)) → Clashing P S a b → ⊥

-- A CLASH OF TWO POSITIONS: none, and they don't clash; or the two, with their kind, and they do.
pub data ClashIs (P : Points) (S : Choice) (i j : ℕ) : Option Clash → Type 0 where
  apart : (Clashing P S i j → ⊥) → ClashIs P S i j None
  met : {k : ClashKind} → Clashing P S i j → KindOf k S i j → ClashIs P S i j (between i j k)

-- WHAT THE THEOREM SAYS: on an accepted sheet the first clash is none exactly if no pixel is marked by two points and no inside label
-- leaves the map, and it is two positions with a kind exactly if the documents name them and that kind.
pub record FirstClashRight (P : Points) (S : Choice) : Type 0 where
  pub none : (first_clash P S ≡ None) ↔ Valid P S
  pub between : (i j : ℕ) (k : ClashKind) → (first_clash P S ≡ between i j k) ↔ Named P S i j k
