-- The frame (document 02 (a)): a label is on the map exactly if all its pixels are, so that valid is said of pixels alone. And labels
-- beside the map's edges. Assumes nothing.
use Rattle.std.specs.Prelude.{◌≡◌, refl, Bool, true, false, [], ◌∷◌, ◌↔◌, ℕ, ◌+◌, ◌-◌, ◌≤◌}
use Rattle.std.proofs.Common.{arith}
use Rattle.labeling.specs.Points.{Points, Choice, Pixel, at_column, in_margin}
use Rattle.labeling.specs.Marks.{Label, LabelOnMap, Valid, label_on_map_b}
use Rattle.labeling.proofs.Pixels.{inside_is, inside_of}
use Rattle.labeling.specs.Frame.{OnMap, ValidByPixels}

-- A LABEL IS ON THE MAP EXACTLY IF EVERY PIXEL OF IT IS.
pub label-on-map : (P : Points) (i : ℕ) → 1 ≤ P.w → 1 ≤ P.h → LabelOnMap P i ↔ ((p : Pixel) → Label P i p → OnMap P p)
label-on-map P i wide high = (there, back)
  where
    there : LabelOnMap P i → (p : Pixel) → Label P i p → OnMap P p
    there o (at_column x y) l = omega arith
    there o (in_margin d y) l = absurd l

    -- the label's last column and last row
    back : ((p : Pixel) → Label P i p → OnMap P p) → LabelOnMap P i
    back f =
        let last = f (at_column (P.column i + (P.w - 1)) (P.row i + (P.h - 1))) (omega arith) in
        omega arith

-- A CHOICE IS VALID EXACTLY IF IT IS SO BY PIXELS.
pub valid-by-pixels : (P : Points) (S : Choice) → 1 ≤ P.w → 1 ≤ P.h → Valid P S ↔ ValidByPixels P S
valid-by-pixels P S wide high = (
  λ v. record { apart = v.apart; on-map = λ p i l t m. (label-on-map P i wide high).0 (v.within i l t) p (inside_is P S i p t m) },
  λ v.
      record { apart = v.apart; within = λ i l t. (label-on-map P i wide high).1 (λ p m. v.on-map p i l t (inside_of P S i p t m)) },
)

-- A point on a map of 20 by 10, its label 4 by 2.
point_at : ℕ → ℕ → Points
point_at c r = record { n = 1; map_width = 20; map_height = 10; w = 4; h = 2; column = λ i. c; row = λ i. r }

fits : ℕ → ℕ → Bool
fits c r = label_on_map_b (point_at c r) 0

-- A label that ends at the right edge, at the top edge or in the corner is on the map; one pixel further it isn't.
edges : fits 16 3 ∷ fits 5 8 ∷ fits 16 8 ∷ [] ≡ true ∷ true ∷ true ∷ []
unfolding fits point_at
edges = refl

past-edges : fits 17 3 ∷ fits 5 9 ∷ fits 17 8 ∷ fits 16 9 ∷ fits 18 2 ∷ [] ≡ false ∷ false ∷ false ∷ false ∷ false ∷ []
unfolding fits point_at
past-edges = refl
