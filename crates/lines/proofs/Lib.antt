mod Laws
mod PairLaws
mod Rooms
pub mod Writing
-- THEOREMS: a number in decimal read back, the number that a refusal is turned into, no text is empty, the listing is what choice and margin
-- rule say, texts worked out by hand, and a text put from a place on.
pub mod Decimal
pub mod Numbered
pub mod NotEmpty
pub mod ListedChoice
pub mod LineCases
pub mod Put
