-- On a plate whose sheet, sections and inside list are right, the walk answers question 43. Assumes nothing.
use Rattle.std.specs.Prelude.{◌≡◌, true, List, ℕ, ◌*◌}
use Rattle.std.proofs.Common.{sym, ap, ◌∙◌}
use Rattle.format.specs.Sheet.{point_count, points_of, plate_sheet_no}
use Rattle.format.proofs.Accepted.{none-plate-sheet}
use Rattle.format.specs.Plate.{choice_of}
use Rattle.format.specs.Ascending.{ascending}
use Rattle.plate_reader.specs.PlateQuestions.{sheet_of, inside_list, outside_pairs, sections_fit, pairs_right}
use Rattle.plate_reader.specs.OutsideWalk.{pairs_follow}
use Rattle.plate_reader.proofs.OutsideWalk.{walk-right}
use Rattle.plate_reader.proofs.PlateSections.{dec-fit, start-accepted, outside-bytes, outside-counted}

pub walk-answers : (p : List ℕ) → plate_sheet_no p ≡ 0 → sections_fit p ≡ true → ascending (point_count p) (inside_list p) ≡ true
    → pairs_follow (points_of (sheet_of p)) (choice_of (inside_list p)) (outside_pairs p)
    ≡ pairs_right (points_of (sheet_of p)) (choice_of (inside_list p)) (outside_pairs p)
walk-answers p sheet fit up =
    let q = (none-plate-sheet p).is sheet in
    let f = (dec-fit p).is fit in
    let a = start-accepted p q.1 q.0 in
    walk-right (points_of (sheet_of p)) (choice_of (inside_list p)) (outside_pairs p) a.proper.pixels
    (outside-bytes p f ∙ ap (λ n. 2 * n) (sym (outside-counted p f q.1 up)))
