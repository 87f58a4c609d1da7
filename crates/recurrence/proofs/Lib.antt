-- THE OPTIMUM: the recurrence finds the best, also over pixels (Optimum, Positions). Safe are the points whose cut needn't be tried,
-- Comparisons the tests as a program makes them, and TieBreak weights that find the preferred choice.
pub mod Optimum
pub mod Positions
pub mod Unreached
pub mod Safe
pub mod Comparisons
pub mod TieBreak
-- BOOKKEEPING: tests; the halves of the optimum's proof, step by step.
pub mod RecurrenceTests
pub mod Joins
pub mod Slabs
pub mod NoBetter
pub mod Takes
pub mod Recovered
pub mod Reached
pub mod Totals
pub mod Sums
