-- Demand 2.
pub mod DemandTwo
-- Laws that read the promise, for all who call them; and that a list of ones answers like none.
pub mod MakingLaws
-- BOOKKEEPING: a plate written from two lists, and that it is the plate of the choice.
pub mod Pairs
pub mod PlateOfLists
