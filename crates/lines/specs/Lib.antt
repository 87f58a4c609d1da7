-- TO BE BELIEVED: numbers in decimal, the number of a refusal, the texts, the room that they need, and what a call that writes one promises
-- (`Prints` and `PrintsListing` of Writing, the rest of which is for proofs).
pub mod Text
pub mod Listing
pub mod Numbered
pub mod DeskLines
pub mod Rooms
pub mod Writing
-- WHAT THEOREMS SAY: a number in decimal read back, the listing that choice and margin rule give, and a text put from a place on. The
-- theorems are in the modules of these names in proofs/.
pub mod Decimal
pub mod ListedChoice
pub mod Put
