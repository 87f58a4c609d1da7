-- `optimum::lists::list_inside` meets its contract: the inside positions below `position` are listed. Assumes nothing.
use Rattle.std.proofs.Common.{ap, arith}
use Rattle.format.specs.Plate.{inside_below}
use Rattle.optimum.specs.Split.{flagged}
use Rattle.optimum.proofs.ListsLaws.{inside-few, inside-taken, inside-passed}
use Rattle.optimum.proofs.lists.list_inside.Goals as goal
use Rattle.optimum.proofs.lists.list_inside.Goals.{then-choice-from, else-choice-from}

pub loop-position-init : goal.loop-position-init
unfolding inside_below
loop-position-init c = c.new-inside.ensures

pub push-requires : goal.push-requires
push-requires c =
    omega (arith, ap (λ r. r.count) c.loop-position.invariant, inside-few (flagged c.args.choice.now) c.loop-position.position)

pub loop-position-preserved : goal.loop-position-preserved
loop-position-preserved c =
    let inv = c.loop-position.invariant in
    elim c.if-choice-from.branch [
      | then-choice-from w ↦
          rw (w.inside-is, inside-taken (flagged c.args.choice.now) c.loop-position.position (rw c.from.ensures at w.if-choice-from.true))
          (w.push.ensures.list _ inv)
      | else-choice-from w ↦
          rw (w.inside-is, inside-passed (flagged c.args.choice.now) c.loop-position.position (rw c.from.ensures at w.if-choice-from.false))
          inv
    ]
