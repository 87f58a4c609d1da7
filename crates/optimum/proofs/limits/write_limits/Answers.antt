-- `optimum::limits::write_limits` meets its contract: two numbers are written in each turn, and the points stay as they are.
-- Assumes nothing.
use Rattle.std.proofs.Common.{◌≡◌, ◌+◌, ◌≤◌, ◌∙◌, arith}
use Rattle.recurrence.specs.Recurrence.{Point}
use Rattle.orders.specs.Arrays.{heights_of}
use Rattle.optimum.specs.SameHeights.{SameHeights}
use Rattle.optimum.proofs.SameHeights.{high_same, top-same}
use Rattle.optimum.specs.Limits.{InOrder}
use Rattle.optimum.proofs.LimitsLaws.{limited-more, limited, kept_same, kept-order}
use Rattle.optimum.proofs.limits.write_limits.Goals as goal
use Rattle.optimum.proofs.limits.write_limits.Goals.{At-loop-k, In-loop-k}

-- the points are still in order
points : (c : At-loop-k)
    → SameHeights (heights_of c.args.heights.now) (heights_of c.loop-k.heights)
points c = kept_same c.loop-k.invariant.kept c.requires.few

order : (c : At-loop-k) → InOrder c.loop-k.heights
order c = kept-order c.loop-k.invariant.kept c.requires

next : (c : In-loop-k) → Point (heights_of c.loop-k.heights) (c.loop-k.k + 1)
next c = record { low = omega arith; high = omega (arith, (points c.before).n) }

pub top-topmost-requires : goal.top-topmost-requires
top-topmost-requires c = (order (goal.at.top-topmost-requires c).At-loop-k, next (goal.at.top-topmost-requires c).In-loop-k)

pub high-least-requires : goal.high-least-requires
high-least-requires c = (order (goal.at.high-least-requires c).At-loop-k, next (goal.at.high-least-requires c).In-loop-k)

pub loop-k-preserved : goal.loop-k-preserved
loop-k-preserved c =
    let l = c.loop-k in
    let u : l.k + 1 ≤ (heights_of c.args.heights.now).n = omega arith in
    limited-more (omega (arith, c.requires.few)) (order (goal.at.loop-k-preserved c).At-loop-k).long l.invariant _ _
    (c.top-topmost.ensures.0 ∙ top-same (points (goal.at.loop-k-preserved c).At-loop-k) (l.k + 1) u)
    (c.high-least.ensures.0 ∙ high_same (points (goal.at.loop-k-preserved c).At-loop-k) (l.k + 1) u)

pub returns : goal.returns
returns c =
    let l = c.loop-k in
    let e : l.k ≡ (heights_of c.args.heights.now).n = omega arith in
    limited c.requires (rw e at l.invariant)
