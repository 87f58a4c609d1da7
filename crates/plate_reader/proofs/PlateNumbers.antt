-- What document 02 (c) says of the numbers of a plate: the reader never answers 61, and a plate with two outside points of one row, right
-- otherwise, gets 44. Assumes nothing.
use Rattle.std.specs.Prelude.{◌≡◌, true, false, not, List, ℕ, ◌≤◌, ◌<◌}
use Rattle.std.proofs.Common.{eq-eqb, arith}
use Rattle.labeling.proofs.Pixels.{one-outside-a-row}
use Rattle.labeling.proofs.Decide.{decide}
use Rattle.format.specs.Sheet.{point_count, row, points_of, plate_sheet_no}
use Rattle.format.proofs.Accepted.{none-plate-sheet}
use Rattle.format.proofs.Asking.{ask-most, then-most}
use Rattle.format.proofs.SharedRows.{plate-sheet-most}
use Rattle.format.specs.Plate.{choice_of}
use Rattle.format.specs.Ascending.{ascending}
use Rattle.clash.specs.FirstClash.{is_clash, first_clash}
use Rattle.clash.proofs.ClashPixels.{no-clash, first-clash-right}
use Rattle.plate_reader.specs.PlateQuestions.{sheet_of, inside_list, outside_pairs, sections_fit, pairs_right, sections_no, plate_no}
use Rattle.plate_reader.proofs.PlateSections.{start-accepted}

-- NO NUMBER IS ABOVE 44

sections-most : (p : List ℕ) → sections_no p ≤ 44
unfolding sections_no
sections-most p =
    ask-most (sections_fit p) 44 41 _ (omega arith)
    (ask-most (ascending (point_count p) (inside_list p)) 44 42 _ (omega arith)
    (ask-most (pairs_right (points_of (sheet_of p)) (choice_of (inside_list p)) (outside_pairs p)) 44 43 _ (omega arith)
    (ask-most (not (is_clash (first_clash (points_of (sheet_of p)) (choice_of (inside_list p))))) 44 44 0 (omega arith) (omega arith))))

pub plate-most : (p : List ℕ) → plate_no p ≤ 44
unfolding plate_no
plate-most p = then-most 44 (plate_sheet_no p) (sections_no p) (omega (arith, plate-sheet-most p)) (sections-most p)

-- "SO SUCH A PLATE GETS 44": 11 to 20 and 41 to 43 are answered yes, and two outside points are in one row
module _ (p : List ℕ) (sheet : plate_sheet_no p ≡ 0) (fit : sections_fit p ≡ true) (up : ascending (point_count p) (inside_list p) ≡ true)
    (pairs : pairs_right (points_of (sheet_of p)) (choice_of (inside_list p)) (outside_pairs p) ≡ true) where
  pub leaders-read : (i j : ℕ) → i < point_count (sheet_of p) → j < point_count (sheet_of p) → (i ≡ j → ⊥)
      → choice_of (inside_list p) i ≡ false → choice_of (inside_list p) j ≡ false → row (sheet_of p) i ≡ row (sheet_of p) j → plate_no p ≡ 44
  unfolding plate_no sections_no
  leaders-read i j l m ne a b e =
      let P = points_of (sheet_of p) in
      let S = choice_of (inside_list p) in
      let q = (none-plate-sheet p).is sheet in
      decide (is_clash (first_clash P S))
      (λ t. rw (eq-eqb (plate_sheet_no p) 0 sheet, fit, up, pairs, t))
      (λ t.
      let v = (first-clash-right (sheet_of p) S (start-accepted p q.1 q.0)).none.0 (no-clash (first_clash P S) t) in
      absurd (ne (one-outside-a-row P S i j v l m a b e)))
