-- What an answer of best_choice says (ChoosingLaws); the array ready for the table (Prepared, LimitsLaws, SameHeights), the table's places
-- and cells (Places, Entries), the tests as the code makes them (ConflictsLaws), the steps of a slab's value and of the recovery (Memo,
-- Steps, Running, RecoveryLaws), and from flags by height order to two lists of positions (ByPosition, Split, ListsLaws, Outside). Chosen:
-- these are the lists of the best choice.
pub mod ChoosingLaws
pub mod Prepared
pub mod LimitsLaws
pub mod SameHeights
pub mod Places
pub mod Entries
pub mod ConflictsLaws
pub mod Memo
pub mod Steps
pub mod Running
pub mod RecoveryLaws
pub mod ByPosition
pub mod Split
pub mod ListsLaws
pub mod Outside
pub mod Chosen
