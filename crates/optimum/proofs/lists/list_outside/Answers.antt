-- `optimum::lists::list_outside` meets its contract: the outside positions of the points from i on in height order are listed.
-- Assumes nothing.
use Rattle.std.proofs.Common.{◌≡◌, ap, ◌∙◌, arith}
use Rattle.labeling.specs.Points.{Choice}
use Rattle.orders.specs.Arrays.{position_at}
use Rattle.optimum.specs.Split.{flagged, outside_down}
use Rattle.optimum.proofs.Outside.{down-inside, down-outside}
use Rattle.optimum.proofs.ListsLaws.{listed_more, listed-whole}
use Rattle.optimum.proofs.lists.list_outside.Goals as goal

pub loop-i-preserved-then-not-choice-from : goal.loop-i-preserved-then-not-choice-from
loop-i-preserved-then-not-choice-from c =
    let l = c.loop-i in
    let S : Choice = flagged c.args.choice.now in
    let pos = position_at c.args.points.now.cells in
    let p : c.position_at-position.result ≡ pos l.i = c.position_at-position.ensures ∙ ap pos (omega arith) in
    let e = rw (c.from.ensures, p) at c.if-not-choice-from.true in
    let f = rw (down-outside S pos l.i (omega arith) e) at l.invariant.1 in
    (omega arith, listed_more _ (pos l.i) _ _ _ f (rw p at c.push.ensures.list))

pub loop-i-preserved : goal.loop-i-preserved
loop-i-preserved c =
    let l = c.loop-i in
    let S : Choice = flagged c.args.choice.now in
    let pos = position_at c.args.points.now.cells in
    let p : c.position_at-position.result ≡ pos l.i = c.position_at-position.ensures ∙ ap pos (omega arith) in
    let e = rw (c.from.ensures, p) at c.if-not-choice-from.false in
    (omega arith, rw (down-inside S pos l.i (omega arith) e) at l.invariant.1)

pub returns : goal.returns
unfolding outside_down
returns c =
    let z : c.loop-i.i ≡ 0 = omega arith in
    listed-whole _ _ (rw z at c.loop-i.invariant.1)
