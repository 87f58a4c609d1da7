-- The theorems on the definitions of specs/PixelNumber.antt. Assumes nothing.
use Rattle.std.specs.Prelude.{◌≡◌, List, ℕ, eqb}
use Rattle.std.proofs.Common.{sym, ◌∙◌, eq-eqb, ne_eqb, arith}
use Rattle.labeling.proofs.Decide.{Decides, decide, not-both, dec-eq, dec-and}
use Rattle.format.specs.Sheet.{column, row, same_pixel}
use Rattle.format.specs.Accepted.{SamePixel}
use Rattle.sheet_reader.specs.PixelNumber.{PixelNumber}

-- Positions stand on one pixel exactly if their pixels have one number.
pub pixel-numbers : (s : List ℕ) (j i a b : ℕ)
    → PixelNumber (column s j) (row s j) a → PixelNumber (column s i) (row s i) b → eqb a b ≡ same_pixel s j i
pixel-numbers s j i a b p q =
    let test : Decides (same_pixel s j i) (SamePixel s j i) = dec-and (dec-eq _ _) (dec-eq _ _) in
    decide (same_pixel s j i)
    (λ t. let e = test.is t in eq-eqb a b (omega (arith, p.0, q.0, e.0, e.1)) ∙ sym t)
    (λ t. ne_eqb a b (λ e. not-both (test.of (omega (arith, p, q, e), omega (arith, p, q, e))) t) ∙ sym t)
