use Rattle.std.specs.Prelude.{◌≡◌, take}
use Rattle.format.specs.Written.{written}
use Rattle.format.proofs.writing.copy_to.Given as goal

abbrev pub invariant-loop-i : goal.invariant-loop-i
invariant-loop-i l = l.output ≡ written l.initial.output l.at (take l.i l.bytes)
