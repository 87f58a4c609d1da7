-- `plate_reader::sections_no` meets its contract, question by question. Assumes nothing.
use Rattle.std.proofs.Common.{◌≡◌, refl, sym, ap, ap₂, ◌∙◌, true}
use Rattle.format.specs.Sheet.{point_count, points_of}
use Rattle.format.proofs.Accepted.{none-plate-sheet}
use Rattle.format.specs.Plate.{choice_of}
use Rattle.format.specs.Ascending.{ascending}
use Rattle.clash.specs.FirstClash.{is_clash, first_clash}
use Rattle.plate_reader.specs.PlateQuestions.{sheet_of, inside_list, outside_pairs, sections_fit, pairs_right, sections_no}
use Rattle.plate_reader.proofs.Laws.{walk-read}
use Rattle.plate_reader.proofs.sections_no.Goals as goal
use Rattle.plate_reader.proofs.sections_no.Goals.{After-pairs_follow, After-is_some}

pub sheet_of-sheet-requires : goal.sheet_of-sheet-requires
sheet_of-sheet-requires c = ((none-plate-sheet _).is c.requires).1

-- 41 and 42 are answered yes,
fit : (c : After-pairs_follow) → sections_fit c.args.plate.now ≡ true
fit c = sym c.sections_fit.ensures ∙ c.if-not-sections_fit.false

risen : (c : After-pairs_follow) → ascending (point_count c.args.plate.now) (inside_list c.args.plate.now) ≡ true
risen c =
    sym (c.ascends.ensures ∙ ap₂ ascending c.point_count.ensures c.inside_positions-list.ensures.holds)
    ∙ c.if-not-ascends.false

-- and 43 by the walk
walk : (c : After-pairs_follow) → let p = c.args.plate.now in
    c.pairs_follow.result ≡ pairs_right (points_of (sheet_of p)) (choice_of (inside_list p)) (outside_pairs p)
walk c =
    c.pairs_follow.ensures
    ∙ walk-read c.args.plate.now _ _ _ _ c.requires (fit c) (risen c)
    c.sheet_of-sheet.ensures c.inside_positions-list.ensures.holds
    c.outside_pairs.ensures.holds c.choice_of.ensures

pub returns-then-not-pairs_follow : goal.returns-then-not-pairs_follow
unfolding sections_no
returns-then-not-pairs_follow c =
    let w = (goal.at.returns-then-not-pairs_follow c).After-pairs_follow in
    rw (fit w, risen w, ← walk w, c.if-not-pairs_follow.true) refl

-- 44 by the first clash
met : (c : After-is_some) → let p = c.args.plate.now in
    c.is_some.result ≡ is_clash (first_clash (points_of (sheet_of p)) (choice_of (inside_list p)))
met c =
    c.is_some.ensures
    ∙ ap is_clash (c.first_clash.ensures
    ∙ ap₂ (λ s l. first_clash (points_of s) (choice_of l)) c.sheet_of-sheet.ensures c.inside_positions-list.ensures.holds)

pub returns-then-is_some : goal.returns-then-is_some
unfolding sections_no
returns-then-is_some c =
    let w = (goal.at.returns-then-is_some c).After-pairs_follow in
    let m = met ((goal.at.returns-then-is_some c).After-is_some) in
    rw (fit w, risen w, ← walk w, ← m, c.if-not-pairs_follow.false, c.if-is_some.true) refl

pub returns : goal.returns
unfolding sections_no
returns c =
    let w = (goal.at.returns c).After-pairs_follow in
    let m = met ((goal.at.returns c).After-is_some) in
    rw (fit w, risen w, ← walk w, ← m, c.if-not-pairs_follow.false, c.if-is_some.false) refl
