-- `plate_export::desk_load` meets its contract. Assumes nothing.
use Rattle.plate_export.proofs.ExportedDesk.{load-replied}
use Rattle.plate_export.proofs.desk_load.Goals as goal

pub returns-clause-value : goal.returns-clause-value
returns-clause-value c = (load-replied c.load.ensures c.from.ensures).0
