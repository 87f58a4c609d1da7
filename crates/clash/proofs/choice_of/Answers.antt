-- `clash::choice_of` meets its contract. Assumes nothing.
use native.Mathlib.Omega.{arith}
use Rattle.clash.specs.ChoiceFlags.{nobody_inside}
use Rattle.clash.proofs.ChoiceFlags.{flags-none, flags-more}
use Rattle.clash.proofs.choice_of.Goals as goal

pub loop-position-init : goal.loop-position-init
unfolding nobody_inside
loop-position-init c = flags-none

pub loop-position-preserved : goal.loop-position-preserved
loop-position-preserved c =
    let list = c.args.list.now in
    let k = c.loop-position.position-index in
    rw c.from.ensures
    (flags-more c.loop-position.inside list k (omega arith) (omega (arith, c.type_inv.list k)) c.loop-position.invariant)
