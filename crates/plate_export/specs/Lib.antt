-- TO BE BELIEVED: what the exported calls answer, in the definitions of the calls inside. The facts that proofs use are in the modules of
-- these names in proofs/.
pub mod Exported
pub mod ExportedDesk
-- What demand 3 of the exported calls speaks of.
pub mod DemandThreeExported
