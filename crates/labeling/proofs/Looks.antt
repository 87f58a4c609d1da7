-- Single pixels looked at: a list of pixels with the position that marks each of them, or doesn't; and such lists for P8, for P9 and for
-- rows 10, 9, 5. Since the margin never conflicts, a leader or an outer label that is drawn wrong there passes every theorem about
-- validity; a look refuses it. Assumes nothing.
use Rattle.std.specs.Prelude.{◌≡◌, refl, Bool, true, false, not, cond, ◌&&◌, List, [], ◌∷◌, ℕ, get_or}
use Rattle.labeling.specs.Points.{Points, Choice, Pixel, at_column, in_margin, before, insert, outside_below}
use Rattle.labeling.specs.Points.{outside, next_margin, placed_from, placed, margin_in, margin_column}
use Rattle.labeling.specs.Marks.{Marks, marks_b}
use Rattle.labeling.proofs.Decide.{and_left, and_right, Decides, dec-not}
use Rattle.labeling.proofs.Tests.{dec-marks}

-- Position `by` marks the pixel, or doesn't.
pub record Look : Type 0 where
  pub by : ℕ
  pub pixel : Pixel
  pub marked : Bool

abbrev pub marked : ℕ → Pixel → Look
marked i p = record { by = i; pixel = p; marked = true }

abbrev pub unmarked : ℕ → Pixel → Look
unmarked i p = record { by = i; pixel = p; marked = false }

-- Every look is as it says.
abbrev pub Seen : Points → Choice → List Look → Type 0
Seen P S [] = Unit {0}
Seen P S (k ∷ ks) = cond k.marked (Marks P S k.by k.pixel) (Marks P S k.by k.pixel → ⊥) × Seen P S ks

abbrev pub seen_b : Points → Choice → List Look → Bool
seen_b P S [] = true
seen_b P S (k ∷ ks) = let m = marks_b P S k.by k.pixel in cond k.marked m (not m) && seen_b P S ks

pub seen : (P : Points) (S : Choice) (ks : List Look) → seen_b P S ks ≡ true → Seen P S ks
seen P S [] e = tt
seen P S (k ∷ ks) e = (one k.marked (and_left _ _ e), seen P S ks (and_right (cond k.marked m (not m)) _ e))
  where
    m : Bool
    m = marks_b P S k.by k.pixel

    M : Type 0
    M = Marks P S k.by k.pixel

    d : Decides m M
    d = dec-marks P S k.by k.pixel

    one : (b : Bool) → cond b m (not m) ≡ true → cond b M (M → ⊥)
    one true e = d.is e
    one false e = (dec-not d).is e

-- P8's rows with columns 5, 0 and 2: labels 4 by 3; outside in margin columns 0, 1 and 2. A fourth point, (9,6), is inside.
eight : Points
eight = record {
  n = 4;
  map_width = 20;
  map_height = 12;
  w = 4;
  h = 3;
  column = λ i. get_or (5 ∷ 0 ∷ 2 ∷ 9 ∷ []) i 0;
  row = λ i. get_or (10 ∷ 9 ∷ 7 ∷ 6 ∷ []) i 0;
}

fourth : Choice
fourth i = get_or (false ∷ false ∷ false ∷ true ∷ []) i false

eight-looks : List Look
eight-looks =
    -- the first, in margin column 0: a leader of columns 0 to 5, an outer label of columns -4 to -1 and rows 10 to 12
    marked 0 (at_column 0 10) ∷ marked 0 (at_column 5 10) ∷ unmarked 0 (at_column 6 10) ∷ unmarked 0 (at_column 0 11) ∷
    marked 0 (in_margin 0 10) ∷ marked 0 (in_margin 3 12) ∷ unmarked 0 (in_margin 4 10) ∷
    unmarked 0 (in_margin 0 13) ∷ unmarked 0 (in_margin 0 9) ∷
    -- the third, in margin column 2: a leader of columns -8 to 2, an outer label of columns -12 to -9 and rows 7 to 9
    marked 2 (at_column 2 7) ∷ unmarked 2 (at_column 3 7) ∷ marked 2 (in_margin 0 7) ∷ marked 2 (in_margin 7 7) ∷ unmarked 2 (in_margin 7 8) ∷
    marked 2 (in_margin 8 7) ∷ marked 2 (in_margin 11 9) ∷ unmarked 2 (in_margin 12 7) ∷
    unmarked 2 (in_margin 8 10) ∷ unmarked 2 (in_margin 8 6) ∷
    -- the fourth, inside: columns 9 to 12 and rows 6 to 8
    marked 3 (at_column 9 6) ∷ marked 3 (at_column 12 8) ∷ unmarked 3 (at_column 8 6) ∷ unmarked 3 (at_column 13 6) ∷
    unmarked 3 (at_column 9 5) ∷ unmarked 3 (at_column 9 9) ∷ unmarked 3 (in_margin 0 6) ∷ []

eight-seen : Seen eight fourth eight-looks
unfolding eight fourth eight-looks marks_b before insert outside_below outside next_margin placed_from placed margin_in margin_column
eight-seen = seen eight fourth eight-looks refl

-- Three points in the same columns and these rows.
three : List ℕ → Points
three rows = record {
  n = 3;
  map_width = 20;
  map_height = 12;
  w = 4;
  h = 3;
  column = λ i. get_or (5 ∷ 0 ∷ 2 ∷ []) i 0;
  row = λ i. get_or rows i 0;
}

-- P9's rows: outside in margin columns 0, 1 and 2.
nine : Points
nine = three (10 ∷ 9 ∷ 6 ∷ [])

nine-looks : List Look
nine-looks =
    -- the second, in margin column 1: a leader up to column -4, an outer label that starts at column -5
    marked 1 (in_margin 3 9) ∷ unmarked 1 (in_margin 3 10) ∷ marked 1 (in_margin 4 9) ∷ marked 1 (in_margin 4 10) ∷
    -- the third, 3 rows below the second, in margin column 2: a leader up to column -8, an outer label of rows 6 to 8 from column -9 on
    marked 2 (in_margin 7 6) ∷ unmarked 2 (in_margin 7 7) ∷ marked 2 (in_margin 8 6) ∷ marked 2 (in_margin 8 8) ∷ unmarked 2 (in_margin 8 9) ∷ []

nine-seen : Seen nine (λ i. false) nine-looks
unfolding nine three nine-looks marks_b before insert outside_below outside next_margin placed_from placed margin_in margin_column
nine-seen = seen nine (λ i. false) nine-looks refl

-- Rows 10, 9 and 5: outside in margin columns 0, 1 and 0.
lower : Points
lower = three (10 ∷ 9 ∷ 5 ∷ [])

lower-looks : List Look
lower-looks =
    -- the first, in margin column 0: an outer label from row 10 on; the second, in margin column 1
    marked 0 (in_margin 0 10) ∷ unmarked 0 (in_margin 0 9) ∷ marked 1 (in_margin 4 10) ∷
    -- the third, 4 rows below the second, in margin column 0 again: an outer label of rows 5 to 7
    marked 2 (in_margin 0 7) ∷ unmarked 2 (in_margin 0 8) ∷ unmarked 2 (in_margin 4 5) ∷ []

lower-seen : Seen lower (λ i. false) lower-looks
unfolding lower three lower-looks marks_b before insert outside_below outside next_margin placed_from placed margin_in margin_column
lower-seen = seen lower (λ i. false) lower-looks refl

-- Two outside points of one row, (5,3) and (2,3): the smaller column stands first.
one-row : Points
one-row = record {
  n = 2;
  map_width = 20;
  map_height = 12;
  w = 4;
  h = 2;
  column = λ i. get_or (5 ∷ 2 ∷ []) i 0;
  row = λ i. 3;
}

one-row-outside : outside one-row (λ i. false) ≡ 1 ∷ 0 ∷ []
unfolding one-row outside outside_below insert before
one-row-outside = refl
