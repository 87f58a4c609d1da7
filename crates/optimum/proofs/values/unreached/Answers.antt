-- `optimum::values::unreached` meets its contract: the label reaches over none of the points passed. Assumes nothing.
use Rattle.std.proofs.Common.{suc, ◌≤◌, sym, ◌∙◌, arith}
use Rattle.orders.specs.Arrays.{heights_of}
use Rattle.optimum.proofs.ConflictsLaws.{climbing-below, climbing-reached, climbing-next, climbing-last}
use Rattle.optimum.proofs.values.unreached.Goals as goal
use Rattle.optimum.proofs.values.unreached.Goals.{At-loop-y}

-- the upper end is a point or the upper boundary
upper : (c : At-loop-y) → c.args.b ≤ suc (heights_of c.args.points.now.cells).n
upper c = omega (arith, c.requires.2)

pub returns-then-label_below : goal.returns-then-label_below
returns-then-label_below c =
    let p = c.requires in
    climbing-below c.args.points.now.packed.sorted p.0 (upper (goal.at.returns-then-label_below c).At-loop-y) c.loop-y.invariant c.loop-y-test.true
    (sym c.label_below.ensures ∙ c.if-label_below.true)

pub returns-then-reaches_over : goal.returns-then-reaches_over
returns-then-reaches_over c =
    let p = c.requires in
    climbing-reached c.args.points.now.packed.sorted p.0 (upper (goal.at.returns-then-reaches_over c).At-loop-y) c.loop-y.invariant c.loop-y-test.true
    (sym c.reaches_over.ensures ∙ c.if-reaches_over.true)

pub loop-y-preserved : goal.loop-y-preserved
loop-y-preserved c =
    let p = c.requires in
    climbing-next c.args.points.now.packed.sorted p.0 (upper (goal.at.loop-y-preserved c).At-loop-y) c.loop-y.invariant c.loop-y-test.true
    (sym c.reaches_over.ensures ∙ c.if-reaches_over.false)

pub returns : goal.returns
returns c =
    let p = c.requires in
    climbing-last c.args.points.now.packed.sorted p.0 (upper (goal.at.returns c).At-loop-y) c.loop-y.invariant c.loop-y-test.false
