-- Why the margin rule is as it is: "Two outer labels stacked without a gap read as one" (document 02 (b)). Assumes nothing.
use Rattle.std.specs.Prelude.{◌≡◌, false, ℕ, ◌+◌, ◌*◌, ◌≤◌, ◌<◌, leb}
use Rattle.std.proofs.Common.{inl, inr, leb-true, leb-false, mul-le-mul_right, arith}
use Rattle.labeling.specs.Points.{Points, Choice, in_margin, margin_column}
use Rattle.labeling.specs.Marks.{Outer, Marks}
use Rattle.labeling.proofs.Decide.{decide}
use Rattle.labeling.proofs.Margin.{lower-further}
use Rattle.labeling.specs.Pixels.{Out}
use Rattle.labeling.proofs.Pixels.{inside_is, outside-is}

-- AIR BETWEEN OUTER LABELS: of two outside points in one margin column and different rows, i above j, the label of j ends with row
-- `row j + h - 1`, and the row after it is still below the label of i.
pub air-between : (P : Points) (S : Choice) (i j : ℕ) → i < P.n → j < P.n → S i ≡ false → S j ≡ false
    → P.row j < P.row i → margin_column P S i ≡ margin_column P S j → P.row j + P.h < P.row i
air-between P S i j l m a b lo e =
    decide (leb (P.row i) (P.row j + P.h))
    (λ t. absurd (omega (arith, lower-further P S i j l m a b lo (leb-true _ _ t), e)))
    (λ t. leb-false _ _ t)

-- That row is free: no point marks it in the columns of the outer label of j, with a label or with a leader.
pub air-above : (P : Points) (S : Choice) (i j d y : ℕ) → i < P.n → j < P.n → S j ≡ false
    → Outer P (margin_column P S j) j (in_margin d y) → Marks P S i (in_margin d (P.row j + P.h)) → ⊥
air-above P S i j d y l m b o x =
    decide (S i)
    (λ a. inside_is P S i (in_margin d (P.row j + P.h)) a x)
    (λ a. let r = reach (outside-is P S i (in_margin d (P.row j + P.h)) a x) in
    let less : margin_column P S i < margin_column P S j = lower-further P S i j l m a b r.0 r.1 in
    let t : (margin_column P S i + 1) * P.w ≤ margin_column P S j * P.w = mul-le-mul_right P.w (omega arith) in
    absurd (omega (arith, r.2)))
  where
    -- i would stand above j, at most h, and reach d
    reach : Out P (margin_column P S i) i (in_margin d (P.row j + P.h))
        → (P.row j < P.row i) × (P.row i ≤ P.row j + P.h) × (d < (margin_column P S i + 1) * P.w)
    reach (inl u) = (omega arith, omega arith, omega arith)
    reach (inr u) = (omega arith, omega arith, omega arith)
