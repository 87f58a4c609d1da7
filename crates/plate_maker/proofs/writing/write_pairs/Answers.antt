-- `plate_maker::writing::write_pairs` meets its contract: the pairs of the first k positions are written. Assumes nothing.
use borrow.Author.Rules.{rules}
use mathlib.Core.List.{[], ◌∷◌}
use mathlib.Core.Path.{◌≡◌, ap, ◌∙◌}
use Prim.Native.Nat.{ℕ, ◌+◌}
use lib.ListN.{length, get_or, drop, length-set}
use lib.Seq.{drop-cons, drop-length}
use native.Mathlib.Numerals.{add-one}
use native.Mathlib.Omega.{arith}
use Rattle.labeling.specs.Points.{Points, placed}
use Rattle.format.specs.Sheet.{points_of}
use Rattle.format.specs.Plate.{pairs}
use Rattle.plate_maker.specs.Writing.{SoFar}
use Rattle.plate_maker.proofs.Pairs.{last_small, so-far-none, so_far_more, so-far-whole}
use Rattle.plate_maker.proofs.writing.write_pairs.Goals as goal

pub loop-k-init : goal.loop-k-init
loop-k-init c =
    let a = c.args in (search rules, so-far-none (points_of a.sheet.now) a.output.now a.at a.list.now)

pub loop-k-preserved : goal.loop-k-preserved
loop-k-preserved c =
    let a = c.args in
    let l = c.loop-k in
    let P : Points = points_of a.sheet.now in
    let i : ℕ = get_or a.list.now l.k 0 in
    let rest : drop l.k a.list.now ≡ i ∷ drop (l.k + 1) a.list.now = rw (add-one l.k) (drop-cons a.list.now l.k 0 (omega arith)) in
    let f : SoFar P (pairs (placed P a.list.now)) a.output.now a.at (length a.list.now)
    (i ∷ drop (l.k + 1) a.list.now) l.k l.last l.output = rw rest at l.invariant.1 in (
      simp length-set (search rules),
      rw c.margin_after-margin.ensures
          (so_far_more P (pairs (placed P a.list.now)) a.output.now a.at (length a.list.now)
          i (drop (l.k + 1) a.list.now) l.k l.last l.output
          (omega (arith, c.requires.1)) f),
    )

pub returns : goal.returns
returns c =
    let a = c.args in
    let l = c.loop-k in
    let P : Points = points_of a.sheet.now in
    let z : l.k ≡ length a.list.now = omega arith in
    let f : SoFar P (pairs (placed P a.list.now)) a.output.now a.at (length a.list.now) [] l.k l.last l.output =
    rw (ap (λ k. drop k a.list.now) z ∙ drop-length a.list.now) at l.invariant.1 in
    (so-far-whole P (pairs (placed P a.list.now)) a.output.now a.at (length a.list.now) l.k l.last l.output f).0
