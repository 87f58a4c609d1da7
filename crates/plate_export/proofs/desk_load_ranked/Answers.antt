-- `plate_export::desk_load_ranked` meets its contract. Assumes nothing.
use Rattle.plate_export.proofs.ExportedDesk.{load-replied}
use Rattle.plate_export.proofs.desk_load_ranked.Goals as goal

pub returns-clause-value : goal.returns-clause-value
returns-clause-value c = (load-replied c.load_ranked.ensures c.from.ensures).0
