use Rattle.std.proofs.Common.{ℕ, refl}
use Rattle.std.proofs.Math.ListN.{length-replicate}
use Rattle.format.specs.Sizes.{workspace_cells}
use Rattle.plate_maker.proofs.MakingLaws.{made-within}
use Rattle.print_plate.proofs.Laws.{made-text, refused-text}
use Rattle.print_plate.proofs.put_text.Goals as goal

pub slice_bounds-output-end : goal.slice_bounds-output-end
slice_bounds-output-end c = made-within c.make.ensures c.in-Ok.is

pub returns-in-Ok : goal.returns-in-Ok
returns-in-Ok c =
    made-text c.make.ensures refl (length-replicate {A = ℕ} workspace_cells 0) c.requires c.in-Ok.is c.listing.ensures

pub returns-in-Err : goal.returns-in-Err
returns-in-Err c =
    refused-text c.make.ensures refl (length-replicate {A = ℕ} workspace_cells 0) c.requires c.in-Err.is c.from.ensures c.refusal_line.ensures
