-- Choices that agree on every position have the same plate. Assumes nothing.
use Rattle.std.specs.Prelude.{◌≡◌, refl, ℕ, zero, suc, ◌<◌, List}
use Rattle.std.proofs.Common.{arith}
use Rattle.labeling.specs.Points.{Choice, outside}
use Rattle.labeling.specs.Best.{Agree}
use Rattle.labeling.proofs.Agree.{outside-agree}
use Rattle.format.specs.Sheet.{point_count, points_of}
use Rattle.format.specs.Plate.{inside_below, inside_section, outside_section, plate_of}

pub inside-agree : (S R : Choice) (m : ℕ) → ((i : ℕ) → i < m → S i ≡ R i) → inside_below S m ≡ inside_below R m
unfolding inside_below
inside-agree S R zero a = refl
inside-agree S R (suc m) a =
    let ih : inside_below S m ≡ inside_below R m = inside-agree S R m (λ i l. a i (omega arith)) in
    let e : S m ≡ R m = a m (omega arith) in
    rw (ih, e)

pub plate-agree : (s : List ℕ) (S R : Choice) → Agree (points_of s) S R → plate_of s S ≡ plate_of s R
unfolding plate_of inside_section outside_section outside
plate-agree s S R a = rw (inside-agree S R (point_count s) a.at, outside-agree (points_of s) S R (point_count s) a.at)
