-- `desk::loading::padded_sheet` meets its contract. Assumes nothing.
use Rattle.std.proofs.Common.{◌++◌, length, ap₂}
use Rattle.format.specs.Sizes.{sheet_room}
use Rattle.format.specs.Padded.{padded}
use Rattle.format.proofs.Padded.{drop-zeros}
use Rattle.desk.proofs.loading.padded_sheet.Goals as goal

pub returns : goal.returns
unfolding padded
returns c = ap₂ (λ a b. a ++ b) c.copy_from_slice.ensures.after (drop-zeros sheet_room (length c.args.sheet.now))
