-- `optimum::recovery::flag_down` meets its contract: the loop sets the flags of the points passed that are taken. Assumes nothing.
use Rattle.std.proofs.Common.{arith}
use Rattle.optimum.proofs.RecoveryLaws.{taking-first, taking-next, taking-last}
use Rattle.optimum.proofs.recovery.flag_down.Goals as goal

pub loop-i-init : goal.loop-i-init
loop-i-init c = taking-first c.requires.0 _

pub loop-i-preserved : goal.loop-i-preserved
loop-i-preserved c =
    taking-next c.requires.0 c.args.points.now.packed c.loop-i.invariant _ _ c.loop-i-test.true (omega arith)
    c.open_below-below.ensures c.flag_taken.ensures

pub returns : goal.returns
returns c =
    taking-last c.requires.0 c.args.points.now.packed c.loop-i.invariant c.loop-i-test.false c.requires.1
