pub mod Exported
pub mod ExportedDesk
-- THEOREMS: demand 3 of the exported calls.
pub mod DemandThreeExported
