-- "With i inside and o outside it has 12 + 6n + i + 2o bytes": the length of a plate. Assumes nothing.
use Rattle.std.specs.Prelude.{◌≡◌, refl, List, [], ◌∷◌, ℕ, zero, suc, ◌+◌, ◌*◌, length}
use Rattle.std.proofs.Common.{ap, ◌∙◌, length-append, arith}
use Rattle.labeling.specs.Points.{Points, Choice, Placed, outside, placed_from, placed, next_margin}
use Rattle.labeling.specs.Best.{weight_below, weight, count, one_each}
use Rattle.labeling.proofs.Decide.{decide}
use Rattle.labeling.proofs.Order.{outside-length}
use Rattle.format.specs.Sheet.{point_count, points_of}
use Rattle.format.specs.Plate.{inside_below, inside_section, pairs, outside_section, plate_of}
use Rattle.format.specs.Accepted.{Accepted}

-- as many inside positions are listed as are inside
pub inside-length : (S : Choice) (m : ℕ) → length (inside_below S m) ≡ weight_below one_each S m
unfolding inside_below weight_below
inside-length S zero = refl
inside-length S (suc m) =
    let ih : length (inside_below S m) ≡ weight_below one_each S m = inside-length S m in
    decide (S m)
    (λ e. rw (length-append, e) (omega arith))
    (λ e. rw (length-append, e) (omega arith))

placed_from-length : (P : Points) (j k : ℕ) (l : List ℕ) → length (placed_from P j k l) ≡ suc (length l)
unfolding placed_from
placed_from-length P j k [] = refl
placed_from-length P j k (i ∷ l) = ap suc (placed_from-length P i (next_margin P j k i) l)

pub placed-length : (P : Points) (l : List ℕ) → length (placed P l) ≡ length l
unfolding placed
placed-length P [] = refl
placed-length P (j ∷ l) = placed_from-length P j 0 l

-- each outside point takes two bytes
pub pairs-length : (l : List Placed) → length (pairs l) ≡ 2 * length l
unfolding pairs
pairs-length [] = refl
pairs-length (p ∷ l) = let ih : length (pairs l) ≡ 2 * length l = pairs-length l in omega arith

pub inside-section-length : (s : List ℕ) (S : Choice) → length (inside_section s S) ≡ 1 + count (points_of s) S
unfolding inside_section count weight
inside-section-length s S = ap suc (inside-length S (point_count s)) ∙ omega arith

pub outside-section-length : (s : List ℕ) (S : Choice) → length (outside_section s S) ≡ 1 + 2 * length (outside (points_of s) S)
unfolding outside_section
outside-section-length s S =
    let l = outside (points_of s) S in
    let a : length (pairs (placed (points_of s) l)) ≡ 2 * length (placed (points_of s) l) = pairs-length _ in
    let b : length (placed (points_of s) l) ≡ length l = placed-length (points_of s) l in
    omega arith

-- every position is inside or outside
pub inside-outside : (s : List ℕ) (S : Choice) → length (outside (points_of s) S) + count (points_of s) S ≡ point_count s
unfolding outside count weight
inside-outside s S = outside-length (points_of s) S (point_count s)

-- THE LENGTH OF A PLATE
pub plate-length : (s : List ℕ) (S : Choice) → Accepted s
    → length (plate_of s S) ≡ 12 + 6 * point_count s + count (points_of s) S + 2 * length (outside (points_of s) S)
unfolding plate_of
plate-length s S a =
    let l : length s ≡ 10 + 6 * point_count s = a.long in
    rw (length-append, length-append) (omega (arith, inside-section-length s S, outside-section-length s S))
