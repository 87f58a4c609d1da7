-- `sheet_reader::points_no` meets its contract: the reader walks the points in their order. Assumes nothing.
use Rattle.std.proofs.Common.{◌≡◌, ◌<◌, ℕ, ltb, ltb-true, lt-ltb, Some, Err, arith, rules, refl, sym, ap, ◌∙◌}
use Rattle.labeling.proofs.Decide.{decide}
use Rattle.format.specs.Sheet.{point_count, points_no}
use Rattle.format.specs.Answers.{no_of}
use Rattle.format.proofs.Answers.{number-not-none}
use Rattle.sheet_reader.specs.declared.reader.SheetPoint.{SheetPoint}
use Rattle.sheet_reader.specs.declared.reader.SheetReader.{SheetReader}
use Rattle.sheet_reader.specs.Reader.{point_at, walked}
use Rattle.sheet_reader.proofs.Laws.{points-more, points-first}
use Rattle.sheet_reader.proofs.points_no.Goals as goal
use Rattle.sheet_reader.proofs.points_no.Goals.{After-branch-point_no}

-- a point that the walk gives is there, and is the next one
given : (r : SheetReader) (i : ℕ) (p : SheetPoint) → Some (i, p) ≡ walked r → (r.next < point_count r.sheet.now) × (i ≡ r.next)
given r i p e =
    decide (ltb r.next (point_count r.sheet.now))
    (λ t. let q = rw t at e in
    let s : (i, p) ≡ (r.next, point_at r.sheet.now r.next) = cc in
    (ltb-true _ _ t, ap (λ (z : ℕ × SheetPoint). z.0) s))
    (λ t. let q = rw t at e in absurd (cc))

pub loop-position-init : goal.loop-position-init
unfolding points_no
loop-position-init c = rw (c.into_iter-position-iterator.ensures.into_iter_gives, c.at-position-items.ensures) (refl, omega arith, refl)

-- so the position is the reader's place, and below n
place : (c : After-branch-point_no)
    → (c.loop-position.position-iterator.next < point_count c.args.sheet.now) × (c.in-Some.position ≡ c.loop-position.position-iterator.next)
place c =
    rw c.loop-position.invariant.0 at (given c.loop-position.position-iterator c.in-Some.position c.in-Some.point c.in-Some.ensures.steps.0)

pub returns-in_err-point_no : goal.returns-in_err-point_no
returns-in_err-point_no c =
    let s = c.args.sheet.now in
    let r = c.in_err-point_no.field-0.0 in
    let same : c.from_residual.result ≡ Err r = search rules in
    let no = c.in_err-point_no.ensures in
    let at = place (goal.at.returns-in_err-point_no c).After-branch-point_no in
    ap no_of same ∙ no
    ∙ points-first s c.in-Some.position _ (ap (points_no s) at.1 ∙ c.loop-position.invariant.2) (λ z. number-not-none r (no ∙ z))
    (omega arith)

pub loop-position-preserved : goal.loop-position-preserved
loop-position-preserved c =
    let at = place (goal.at.loop-position-preserved c).After-branch-point_no in
    let none = rw at.1 at c.in_ok-point_no.ensures in
    rw (c.in-Some.ensures.steps.1, c.loop-position.invariant.0, lt-ltb _ _ at.0) (
      refl,
      omega arith,
      points-more _ _ c.loop-position.invariant.2 (sym none),
    )
