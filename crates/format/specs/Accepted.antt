-- What an accepted sheet has: the documents' rules, as facts. proofs/Accepted.antt shows that the questions 11 to 20 are all answered yes
-- exactly if the sheet keeps them. The crates above rely on these facts. Assumes nothing.
use Rattle.std.specs.Prelude.{◌≡◌, List, ℕ, ◌+◌, ◌*◌, ◌≤◌, ◌<◌, length}
use Rattle.labeling.specs.Points.{Distinct}
use Rattle.format.specs.Sheet.{frame_count, map_width, map_height, label_width, label_height, point_count, call_number, column}
use Rattle.format.specs.Sheet.{row, points_of}

-- A number is 1 to most.
abbrev pub UpTo : ℕ → ℕ → Type 0
UpTo most x = (1 ≤ x) × (x ≤ most)

-- The rules of a sheet but for its length.
pub record Proper (s : List ℕ) : Type 0 where
  pub frame : frame_count s ≡ 1
  pub map-width : UpTo 4096 (map_width s)
  pub map-height : UpTo 4096 (map_height s)
  pub label-width : UpTo 256 (label_width s)
  pub label-height : UpTo 256 (label_height s)
  pub few : point_count s ≤ 32
  pub call-number : (i : ℕ) → i < point_count s → UpTo 9999 (call_number s i)
  pub on-map : (i : ℕ) → i < point_count s → (column s i < map_width s) × (row s i < map_height s)
  pub calls : (i j : ℕ) → i < point_count s → j < point_count s → call_number s i ≡ call_number s j → i ≡ j
  pub pixels : Distinct (points_of s)

-- An accepted sheet: "A sheet has 10 + 6n bytes", and the rules.
pub record Accepted (s : List ℕ) : Type 0 where
  pub proper : Proper s
  pub long : length s ≡ 10 + 6 * point_count s

-- The number of a first no is 0 exactly if A holds.
pub record NoneOf (no : ℕ) (A : Type 0) : Type 0 where
  pub is : no ≡ 0 → A
  pub of : A → no ≡ 0

-- Positions j and i have one call number; stand on one pixel.
abbrev pub SameCall : List ℕ → ℕ → ℕ → Type 0
SameCall s j i = call_number s j ≡ call_number s i

abbrev pub SamePixel : List ℕ → ℕ → ℕ → Type 0
SamePixel s j i = (row s j ≡ row s i) × (column s j ≡ column s i)

-- No position below i is like i.
abbrev pub Unlike : (ℕ → ℕ → Type 0) → ℕ → Type 0
Unlike Like i = (j : ℕ) → j < i → Like j i → ⊥
