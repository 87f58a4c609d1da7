-- The plate of a choice's two lists is the plate of the choice. Assumes nothing.
use Rattle.std.specs.Prelude.{◌≡◌, refl, List, ◌++◌, ℕ, ◌+◌, ◌-◌, ◌≤◌, length, take, drop}
use Rattle.std.proofs.Common.{sym, ap, ◌∙◌, arith}
use Rattle.labeling.specs.Points.{Choice, outside}
use Rattle.labeling.specs.Best.{weight, count}
use Rattle.format.specs.Sheet.{point_count, points_of}
use Rattle.format.specs.Plate.{inside_below, inside_section, outside_section, plate_of}
use Rattle.format.proofs.PlateLength.{inside-length, inside-outside}
use Rattle.format.proofs.Padded.{padded-take, padded-length}
use Rattle.optimum.specs.Choosing.{split_of}
use Rattle.optimum.specs.declared.BestChoice.{BestChoice}
use Rattle.plate_maker.specs.Writing.{section_of, plate_of_lists}

-- the plate of a choice is that of its two lists
plate-of-lists : (s : List ℕ) (S : Choice) → plate_of s S ≡ plate_of_lists s (inside_below S (point_count s)) (outside (points_of s) S)
unfolding plate_of plate_of_lists inside_section outside_section section_of
plate-of-lists s S = refl

module _ (s : List ℕ) (S : Choice) (r : BestChoice) (b : r ≡ split_of s S) where
  -- the two lists, read from their cells
  pub inside-fits : r.inside.count ≤ length r.inside.cells
  inside-fits = rw b (padded-length 32 (inside_below S (point_count s)))

  pub outside-fits : r.outside.count ≤ length r.outside.cells
  outside-fits = rw b (padded-length 32 (outside (points_of s) S))

  pub inside-listed : take (r.inside.count - 0) r.inside.cells ≡ inside_below S (point_count s)
  inside-listed =
      let z : length (inside_below S (point_count s)) - 0 ≡ length (inside_below S (point_count s)) = omega arith in
      rw (b, z) (padded-take 32 (inside_below S (point_count s)))

  pub outside-listed : take (r.outside.count - 0) r.outside.cells ≡ outside (points_of s) S
  outside-listed =
      let z : length (outside (points_of s) S) - 0 ≡ length (outside (points_of s) S) = omega arith in
      rw (b, z) (padded-take 32 (outside (points_of s) S))

-- they have n positions together
pub both-lengths : (s : List ℕ) (S : Choice) → length (inside_below S (point_count s)) + length (outside (points_of s) S) ≡ point_count s
unfolding count weight
both-lengths s S = omega (arith, inside-length S (point_count s), inside-outside s S)

-- THE PLATE OF THE TWO LISTS IS THE CHOICE'S
pub choice-written : (s : List ℕ) (S : Choice) (o o' l m : List ℕ) (k : ℕ)
    → l ≡ inside_below S (point_count s) → m ≡ outside (points_of s) S
    → k ≡ length (plate_of_lists s l m) → o' ≡ plate_of_lists s l m ++ drop (length (plate_of_lists s l m)) o
    → (k ≡ length (plate_of s S)) × (o' ≡ plate_of s S ++ drop (length (plate_of s S)) o)
choice-written s S o o' l m k i e q f =
    let p : plate_of_lists s l m ≡ plate_of s S = rw (i, e) (sym (plate-of-lists s S)) in
    (q ∙ ap length p, rw p at f)
