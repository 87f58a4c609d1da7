-- `clash::first_clash` meets its contract. Assumes nothing.
use mathlib.Core.Path.{◌∙◌}
use native.Mathlib.Omega.{arith}
use Rattle.clash.proofs.ChoiceFlags.{flags-hold, first-clash-same}
use Rattle.clash.proofs.first_clash.Goals as goal

pub returns : goal.returns
returns c =
    c.first_clash.ensures
    ∙ first-clash-same _ _ _ (λ i l. flags-hold _ _ c.choice_of.ensures i (omega (arith, c.type_inv.sheet 9)))
