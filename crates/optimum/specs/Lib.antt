-- WHAT IS PROMISED of best_choice: its number, the workspace, and the two lists of the best choice.
pub mod Choosing
-- WHAT THE TABLE SAYS: what is noted of a slab is right (Table `Memo`); a slab by the recurrence's functions.
pub mod Table
pub mod Slabs
-- BOOKKEEPING: what the array must hold for the table (Packed, Prepared, Limits, SameHeights), the table's places and cells (Places,
-- Entries), the tests as the code makes them (Conflicts), and from flags by height order to two lists of positions (ByPosition, Split,
-- Chosen).
pub mod Packed
pub mod Prepared
pub mod Limits
pub mod SameHeights
pub mod Places
pub mod Entries
pub mod Conflicts
pub mod ByPosition
pub mod Split
pub mod Chosen
