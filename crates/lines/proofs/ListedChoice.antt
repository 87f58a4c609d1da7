-- The listing of the plate of a choice says what the choice and the margin rule say. So what an operator reads is proved from the choice
-- on, and not just from the plate's bytes. Assumes nothing.
use Rattle.std.specs.Prelude.{◌≡◌, List, [], ◌∷◌, ◌++◌, get_or}
use Rattle.std.proofs.Math.Path.{refl, ap, ap₂}
use Rattle.std.proofs.Common.{◌∙◌, le_refl, arith}
use Prim.Native.Nat.{ℕ, zero, suc, ◌+◌, ◌*◌, ◌≤◌, ◌<◌}
use Rattle.std.proofs.Math.ListN.{length, length-append, get_or-append}
use Rattle.labeling.specs.Points.{Choice, Placed, outside, placed, margin_in, margin_column, among}
use Rattle.labeling.specs.Best.{weight, count}
use Rattle.format.specs.Sheet.{two_bytes, point_count, call_number, points_of, sheet_length}
use Rattle.format.specs.Accepted.{Accepted}
use Rattle.format.specs.Plate.{inside_section, pairs, outside_section, plate_of}
use Rattle.format.proofs.PlateLength.{inside-length}
use Rattle.plate_reader.specs.PlateQuestions.{inside_count, inside_list, outside_pairs}
use Rattle.plate_reader.proofs.DemandTwoReader.{parts}
use Rattle.format.proofs.InsideList.{choice-of-list}
use Rattle.lines.specs.Listing.{margins, used, columns_used, margin_of, first_line, point_line, point_lines, listing_of}
use Rattle.lines.specs.ListedChoice.{margins_of, choice_line, choice_lines, choice_listing}

-- pairs read as what they were written from
margins-read : (l : List Placed) → margins (pairs l) ≡ margins_of l
unfolding pairs
margins-read [] = refl
margins-read (p ∷ l) = ap (λ t. p.margin ∷ t) (margins-read l)

margin-read : (i : ℕ) (l : List Placed) → margin_of i (pairs l) ≡ margin_in i l
unfolding pairs margin_of margin_in
margin-read i [] = refl
margin-read i (p ∷ l) = rw (margin-read i l)

module _ (s : List ℕ) (S : Choice) (a : Accepted s) where
  -- the sheet's bytes stand at the start
  byte-same : (k : ℕ) → k < sheet_length s → get_or (plate_of s S) k 0 ≡ get_or s k 0
  unfolding plate_of
  byte-same k l =
      let long : length s ≡ sheet_length s = a.long in
      let more : length (s ++ inside_section s S) ≡ length s + length (inside_section s S) = length-append s (inside_section s S) in
      get_or-append (s ++ inside_section s S) (outside_section s S) 0 k (omega arith)
      ∙ get_or-append s (inside_section s S) 0 k (omega arith)

  call_same : (i : ℕ) → i < point_count s → call_number (plate_of s S) i ≡ call_number s i
  unfolding two_bytes
  call_same i l = ap₂ (λ x y. x + 256 * y) (byte-same (10 + 6 * i) (omega arith)) (byte-same (10 + 6 * i + 1) (omega arith))

  inside-same : (i : ℕ) → i < point_count s → among i (inside_list (plate_of s S)) ≡ S i
  inside-same i l = ap (among i) (parts s S a).inside ∙ choice-of-list S (point_count s) i l

  margin-same : (i : ℕ) → margin_of i (outside_pairs (plate_of s S)) ≡ margin_column (points_of s) S i
  unfolding margin_column
  margin-same i = ap (margin_of i) (parts s S a).outside ∙ margin-read i (placed (points_of s) (outside (points_of s) S))

  lines_same : (m : ℕ) → m ≤ point_count s → point_lines (plate_of s S) m ≡ choice_lines s S m
  unfolding point_lines point_line choice_lines choice_line
  lines_same zero h = refl
  lines_same (suc m) h = rw (lines_same m (omega arith), call_same m (omega arith), inside-same m (omega arith), margin-same m)

  columns-same : columns_used (outside_pairs (plate_of s S)) ≡ used (margins_of (placed (points_of s) (outside (points_of s) S)))
  unfolding columns_used
  columns-same = ap (λ l. used (margins l)) (parts s S a).outside ∙ ap used (margins-read (placed (points_of s) (outside (points_of s) S)))

  count_same : inside_count (plate_of s S) ≡ count (points_of s) S
  unfolding count weight
  count_same = (parts s S a).inside-count ∙ inside-length S (point_count s)

  -- THE LISTING OF A PLATE is its choice's.
  pub listing-right : listing_of (plate_of s S) ≡ choice_listing s S
  unfolding listing_of first_line choice_listing
  listing-right = rw (count_same, columns-same, (parts s S a).points, lines_same (point_count s) (le_refl (point_count s)))
