-- Only positions below n matter: marks, validity and weight are the same for choices that agree there.
-- Assumes nothing.
use Rattle.std.specs.Prelude.{◌≡◌, refl, ℕ, zero, suc, ◌<◌}
use Rattle.std.proofs.Common.{sym, ◌∙◌, arith}
use Rattle.labeling.specs.Points.{Points, Choice, Pixel}
use Rattle.labeling.specs.Marks.{Marks, Valid}
use Rattle.labeling.specs.Best.{Agree, weight_below, weight}
pub use Rattle.labeling.proofs.AgreeMargin.{outside-agree, margin-agree}

pub agree-sym : (P : Points) (S R : Choice) → Agree P S R → Agree P R S
agree-sym P S R a = record { at = λ i l. sym (a.at i l) }

pub marks-agree : (P : Points) (S R : Choice) (i : ℕ) (p : Pixel) → i < P.n → Agree P S R → Marks P S i p → Marks P R i p
unfolding Marks
marks-agree P S R i p l a m = rw (a.at i l, margin-agree P S R i a) at m

pub valid-agree : (P : Points) (S R : Choice) → Agree P S R → Valid P S → Valid P R
valid-agree P S R a v =
    let b = agree-sym P S R a in
    record {
      apart = λ p i j l m ne x y. v.apart p i j l m ne (marks-agree P R S i p l b x) (marks-agree P R S j p m b y);
      within = λ i l t. v.within i l (a.at i l ∙ t);
    }

pub weight_below-agree : (v : ℕ → ℕ) (S R : Choice) (m : ℕ) → ((i : ℕ) → i < m → S i ≡ R i) → weight_below v S m ≡ weight_below v R m
unfolding weight_below
weight_below-agree v S R zero a = refl
weight_below-agree v S R (suc m) a =
    let ih : weight_below v S m ≡ weight_below v R m = weight_below-agree v S R m (λ i l. a i (omega arith)) in
    let e : S m ≡ R m = a m (omega arith) in
    rw (e, ih)

pub weight-agree : (P : Points) (v : ℕ → ℕ) (S R : Choice) → Agree P S R → weight P v S ≡ weight P v R
unfolding weight
weight-agree P v S R a = weight_below-agree v S R P.n a.at
