-- `plate_export::desk_mark` meets its contract. Assumes nothing.
use Rattle.plate_export.proofs.ExportedDesk.{mark-replied}
use Rattle.plate_export.proofs.desk_mark.Goals as goal

pub returns : goal.returns
returns c = mark-replied c.mark.ensures c.from.ensures
