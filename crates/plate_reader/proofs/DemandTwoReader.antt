-- DEMAND 2, THE READER'S HALF, proved. Assumes nothing.
use Rattle.std.specs.Prelude.{◌≡◌, true, List, ◌∷◌, ◌++◌, ℕ, ◌≤◌, get_or}
use Rattle.std.proofs.Math.Path.{refl, ap, ap₂}
use Rattle.std.proofs.Common.{sym, ◌∙◌, eq-eqb, arith}
use Rattle.std.proofs.Math.ListN.{length}
use Rattle.labeling.specs.Points.{Choice, outside, placed}
use Rattle.labeling.specs.Marks.{Valid}
use Rattle.labeling.specs.Best.{Agree, weight_below, weight, count, one_each}
use Rattle.labeling.proofs.Agree.{agree-sym, outside-agree, valid-agree}
use Rattle.format.specs.Sheet.{point_count, points_of, sheet_no, sheet_length}
use Rattle.format.specs.Accepted.{Proper, Accepted}
use Rattle.format.proofs.Accepted.{accepted, none-sheet}
use Rattle.format.proofs.Bytes.{dec-bytes}
use Rattle.format.specs.Plate.{choice_of, inside_below, inside_section, pairs, outside_section, plate_of}
use Rattle.format.proofs.PlateLength.{inside-length, inside-outside, plate-length}
use Rattle.format.proofs.InsideList.{choice-of-list, inside-ascending}
use Rattle.clash.proofs.ClashPixels.{first-clash-right}
use Rattle.plate_reader.specs.PlateQuestions.{sheet_of, inside_count, inside_list, outside_count}
use Rattle.plate_reader.specs.PlateQuestions.{outside_pairs, pairs_right, plate_no, handed_back}
use Rattle.plate_reader.specs.PlateSections.{Fitting, Asked}
use Rattle.plate_reader.proofs.PlateSections.{none-plate, proper-same, start-same, start-accepted}
use Rattle.plate_reader.specs.PlateSections.{Parts}
use Rattle.plate_reader.proofs.PlateSections.{sections, inside-counted, inside-read, outside-counted, read_back}
use Rattle.plate_reader.specs.DemandTwoReader.{PlateOfChoice, ReadRight}

-- AN ACCEPTED PLATE IS A PLATE

module _ (p : List ℕ) (a : Asked p) where
  sheet-accepted : Accepted (sheet_of p)
  sheet-accepted = start-accepted p a.long a.proper

  -- the bytes are those that plate_of gives
  plate-read : p ≡ plate_of (sheet_of p) (choice_of (inside_list p))
  unfolding plate_of inside_section outside_section pairs_right
  plate-read =
      let s = sheet_of p in
      let S = choice_of (inside_list p) in
      let l : inside_below S (point_count s) ≡ inside_list p = inside-read p a.fits a.long a.inside in
      let i : length (inside_below S (point_count s)) ≡ inside_count p = ap length l ∙ inside-counted p a.fits in
      let o : length (outside (points_of s) S) ≡ outside_count p = outside-counted p a.fits a.long a.inside in
      let b : outside_pairs p ≡ pairs (placed (points_of s) (outside (points_of s) S)) = (dec-bytes _ _).is a.outside in
      sections p a.fits ∙ ap₂ (λ x y. s ++ x ++ y) (ap₂ (λ x y. x ∷ y) (sym i) (sym l)) (ap₂ (λ x y. x ∷ y) (sym o) b)

  choice-valid : Valid (points_of (sheet_of p)) (choice_of (inside_list p))
  choice-valid = (first-clash-right (sheet_of p) (choice_of (inside_list p)) sheet-accepted).none.0 a.apart

  is-plate : PlateOfChoice p
  is-plate = record {
    sheet = sheet_of p;
    choice = choice_of (inside_list p);
    accepted = (none-sheet (sheet_of p)).of sheet-accepted;
    valid = choice-valid;
    plate = plate-read;
  }

-- A PLATE IS ACCEPTED, AND READ BACK

module _ (s : List ℕ) (S : Choice) (a : Accepted s) where
  pub parts : Parts (plate_of s S) s (inside_below S (point_count s)) (length (outside (points_of s) S))
      (pairs (placed (points_of s) (outside (points_of s) S)))
  unfolding plate_of inside_section outside_section
  parts = read_back _ _ _ _ _ a.long refl

  -- the choice that is read is S
  read-agree : Agree (points_of s) (choice_of (inside_below S (point_count s))) S
  read-agree = record { at = choice-of-list S (point_count s) }

  fitting : Fitting (plate_of s S)
  unfolding count weight
  fitting =
      let c : length (inside_below S (point_count s)) ≡ weight_below one_each S (point_count s) = inside-length S (point_count s) in
      let n = parts.points in
      let i = parts.inside-count in
      let o = parts.outside-count in
      record { ends = omega (arith, plate-length s S a); together = omega (arith, inside-outside s S) }

  reaches : sheet_length (plate_of s S) ≤ length (plate_of s S)
  reaches = let e = fitting.ends in omega arith

  plate-proper : Proper (plate_of s S)
  plate-proper =
      let n = parts.points in
      proper-same s (plate_of s S)
      (λ k l. ap (λ x. get_or x k 0) (sym parts.sheet) ∙ start-same (plate_of s S) reaches k (omega arith)) a.proper

  plate-outside :
      pairs_right (points_of s) (choice_of (inside_below S (point_count s))) (pairs (placed (points_of s) (outside (points_of s) S))) ≡ true
  unfolding pairs_right outside
  plate-outside =
      (dec-bytes _ _).of
      (ap (λ l. pairs (placed (points_of s) l))
      (sym (outside-agree (points_of s) (choice_of (inside_below S (point_count s))) S (point_count s) read-agree.at)))

  plate-asked : Valid (points_of s) S → Asked (plate_of s S)
  plate-asked v =
      let R = choice_of (inside_below S (point_count s)) in
      record {
        proper = plate-proper;
        long = reaches;
        fits = fitting;
        inside = rw (parts.points, parts.inside) (inside-ascending S (point_count s) (point_count s) (omega arith));
        outside = rw (parts.sheet, parts.inside, parts.outside) plate-outside;
        apart =
            rw (parts.sheet, parts.inside)
            ((first-clash-right s R a).none.1 (valid-agree (points_of s) S R (agree-sym (points_of s) R S read-agree) v));
      }

-- A plate of an accepted sheet has just one sheet and one choice.
pub plate-once : (s t : List ℕ) (S R : Choice) → sheet_no s ≡ 0 → sheet_no t ≡ 0 → plate_of s S ≡ plate_of t R
    → (s ≡ t) × Agree (points_of s) S R
plate-once s t S R a b e =
    let x = parts s S (accepted s a) in
    let y = parts t R (accepted t b) in
    let q : s ≡ t = sym x.sheet ∙ ap sheet_of e ∙ y.sheet in
    let l : inside_below S (point_count s) ≡ inside_below R (point_count t) = sym x.inside ∙ ap inside_list e ∙ y.inside in (
      q,
      record {
        at = λ i m. sym (choice-of-list S (point_count s) i m) ∙ ap (λ k. choice_of k i) l ∙ choice-of-list R (point_count t) i (rw q at m);
      },
    )

pub demand-two-reader : (p : List ℕ) → ReadRight p
unfolding handed_back
demand-two-reader p = record {
  accepts = (λ e. is-plate p ((none-plate p).is e), no-no);
  one-sheet = λ x y. (once x y).0;
  one_choice = λ x y. (once x y).1;
  inside = λ x. rw (eq-eqb (plate_no p) 0 (no-no x))
      (ap inside_list x.plate ∙ (parts x.sheet x.choice (accepted x.sheet x.accepted)).inside);
}
  where
    no-no : PlateOfChoice p → plate_no p ≡ 0
    no-no x = rw x.plate ((none-plate _).of (plate-asked x.sheet x.choice (accepted x.sheet x.accepted) x.valid))

    once : (x y : PlateOfChoice p) → (x.sheet ≡ y.sheet) × Agree (points_of x.sheet) x.choice y.choice
    once x y = plate-once x.sheet y.sheet x.choice y.choice x.accepted y.accepted (sym x.plate ∙ y.plate)
