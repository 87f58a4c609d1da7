use mathlib.Core.Path.{◌≡◌}
use lib.ListN.{take}
use Rattle.clash.specs.ChoiceFlags.{flags_of}
use Rattle.clash.proofs.choice_of.Given as goal

abbrev pub invariant-loop-position : goal.invariant-loop-position
invariant-loop-position l = l.inside ≡ flags_of (take l.position-index l.list)
