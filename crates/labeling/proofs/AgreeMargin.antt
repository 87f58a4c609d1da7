-- Choices that agree have the same outside positions and the same margin columns. Assumes nothing.
use Rattle.std.specs.Prelude.{◌≡◌, refl, ℕ, zero, suc, ◌<◌}
use Rattle.std.proofs.Common.{arith}
use Rattle.labeling.specs.Points.{Points, Choice, outside_below, outside, margin_column}
use Rattle.labeling.specs.Best.{Agree}

pub outside-agree : (P : Points) (S R : Choice) (m : ℕ) → ((i : ℕ) → i < m → S i ≡ R i) → outside_below P S m ≡ outside_below P R m
unfolding outside_below
outside-agree P S R zero a = refl
outside-agree P S R (suc m) a =
    let ih : outside_below P S m ≡ outside_below P R m = outside-agree P S R m (λ i l. a i (omega arith)) in
    let e : S m ≡ R m = a m (omega arith) in
    rw (e, ih)

pub margin-agree : (P : Points) (S R : Choice) (i : ℕ) → Agree P S R → margin_column P S i ≡ margin_column P R i
unfolding margin_column outside
margin-agree P S R i a = rw (outside-agree P S R P.n a.at)
