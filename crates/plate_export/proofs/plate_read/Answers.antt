-- `plate_export::plate_read` meets its contract. Assumes nothing.
use Rattle.std.proofs.Common.{ap, ◌∙◌, ℕ, ◌+◌, ◌*◌}
use Rattle.plate_export.proofs.Exported.{exported-accepted, exported-refused-plate}
use Rattle.plate_export.proofs.plate_read.Goals as goal

pub returns-in-Ok : goal.returns-in-Ok
returns-in-Ok c =
    exported-accepted _ _ _ _ _ c.read_plate.ensures c.in-Ok.is
    (ap (λ (n : ℕ). 11 + 6 * n) (c.from.ensures ∙ c.point_count.ensures)) c.from-in-Ok.ensures

pub returns-in-Err : goal.returns-in-Err
returns-in-Err c =
    exported-refused-plate _ _ _ _ c.read_plate.ensures c.in-Err.is (c.from-in-Err-2.ensures ∙ c.from-in-Err.ensures)
