-- `plate_maker::writing::write_plate` meets its contract: the sheet and the two sections, one after the other. Assumes nothing.
use mathlib.Core.List.{List, ◌∷◌}
use mathlib.Core.Path.{◌≡◌, ◌∙◌}
use Prim.Native.Nat.{ℕ, ◌+◌}
use lib.ListN.{length}
use native.Mathlib.Omega.{arith}
use Rattle.format.specs.Sheet.{points_of}
use Rattle.format.specs.Written.{written}
use Rattle.format.proofs.Written.{written-fits}
use Rattle.plate_maker.specs.Writing.{section_of}
use Rattle.plate_maker.proofs.Pairs.{lists_length, plate-written}
use Rattle.plate_maker.proofs.writing.write_plate.Goals as goal

pub returns : goal.returns
returns c =
    let a = c.args in
    let s : List ℕ = a.sheet.now in
    let I : List ℕ = a.inside.now in
    let O : List ℕ = a.outside.now in
    let d : List ℕ = a.output.now in
    let copied : c.copy_to.new.output ≡ written d 0 s =
    c.copy_to.ensures
    ∙ written-fits d 0 s (omega arith) in
    let at : c.write_inside-at.result ≡ length s + 1 + length I =
    c.write_inside-at.ensures.0 in
    let one :
    c.write_inside-at.new.output ≡ written (written d 0 s) (length s) (length I ∷ I) =
    rw copied at c.write_inside-at.ensures.1 in
    let two : c.write_outside.new.output
    ≡ written (written (written d 0 s) (length s) (length I ∷ I)) (length s + 1 + length I) (section_of (points_of s) O) =
    rw (one, at) at c.write_outside.ensures.1 in (
      omega (arith, c.write_outside.ensures.0, lists_length s I O),
      two ∙ plate-written s I O d
          c.requires.2,
    )
