-- WHAT IS PROMISED of make, make_ranked and make_with, and demand 2 above it.
pub mod Making
pub mod DemandTwo
-- BOOKKEEPING: a plate written from two lists.
pub mod Writing
