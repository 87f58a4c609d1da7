-- Facts about the tests of a plate, for the proofs of this crate. Assumes nothing.
use mathlib.Core.Path.{◌≡◌, refl, ◌∙◌}
use mathlib.Core.Bool.{Bool, true}
use mathlib.Core.List.{List, [], ◌∷◌}
use Prim.Native.Nat.{ℕ, ◌-◌, ◌≤◌}
use lib.ListN.{length, get_or, take, drop}
use native.Mathlib.Omega.{arith}
use Rattle.labeling.specs.Points.{Points, Choice}
use Rattle.format.specs.Sheet.{point_count, points_of, plate_sheet_no}
use Rattle.format.proofs.Accepted.{none-plate-sheet}
use Rattle.format.proofs.Bytes.{all_after}
use Rattle.format.specs.Plate.{choice_of}
use Rattle.format.specs.Ascending.{ascending}
use Rattle.clash.specs.ChoiceFlags.{held, flags_of}
use Rattle.clash.proofs.ChoiceFlags.{flags-hold}
use Rattle.plate_reader.specs.PlateQuestions.{sheet_of, inside_start, inside_list}
use Rattle.plate_reader.specs.PlateQuestions.{outside_pairs, sections_fit, pairs_right, plate_no, handed_back, handed_back_at}
use Rattle.plate_reader.specs.OutsideWalk.{pair_follows, pairs_after, pairs_follow}
use Rattle.plate_reader.proofs.OutsideWalk.{follow-same}
use Rattle.plate_reader.proofs.PlateSections.{dec-fit, none-plate, start-accepted}
use Rattle.plate_reader.proofs.PlateWalk.{walk-answers}

-- 43: the pairs, one by one, where a pair follows: the code's `rest` after it

module _ (P : Points) (S : Choice) (j k : ℕ) where
  pub after_pair : (b : List ℕ) → 2 ≤ length b → pair_follows P S j k (get_or b 0 0) (get_or b 1 0) ≡ true
      → pairs_after P S j k b ≡ pairs_after P S (get_or b 0 0) (get_or b 1 0) (take (length b - 2) (drop 2 b))
  unfolding pairs_after
  after_pair [] l e = absurd (omega arith)
  after_pair (x ∷ []) l e = absurd (omega arith)
  after_pair (x ∷ y ∷ b) l e = rw (e, all_after 2 (x ∷ y ∷ b)) refl

-- the walk over the parts of a plate
pub walk-read : (p sheet list bytes : List ℕ) (flags : List Bool)
    → plate_sheet_no p ≡ 0 → sections_fit p ≡ true → ascending (point_count p) (inside_list p) ≡ true
    → sheet ≡ sheet_of p → list ≡ inside_list p → bytes ≡ outside_pairs p → flags ≡ flags_of list
    → pairs_follow (points_of sheet) (held flags) bytes ≡ pairs_right (points_of (sheet_of p)) (choice_of (inside_list p)) (outside_pairs p)
walk-read p sheet list bytes flags z fit up es el eb h =
    let q = (none-plate-sheet p).is z in
    let few = (start-accepted p q.1 q.0).proper.few in
    rw (es, eb)
    (follow-same (points_of (sheet_of p)) (held flags) (choice_of (inside_list p))
    (λ i l. rw el at (flags-hold flags list h i (omega arith))) (outside_pairs p)
    ∙ walk-answers p z fit up)

-- WHAT IS HANDED BACK

module _ (p : List ℕ) where
  pub accepted-list : plate_no p ≡ 0 → inside_list p ≡ handed_back p
  unfolding handed_back
  accepted-list e = rw e

  pub accepted-at : plate_no p ≡ 0 → inside_start p ≡ handed_back_at p
  unfolding handed_back_at
  accepted-at e = rw e

  pub accepted-fits : plate_no p ≡ 0 → sections_fit p ≡ true
  accepted-fits e = (dec-fit p).of ((none-plate p).is e).fits
