-- THE OPTIMUM: the recurrence for points in height order, its value and its choice (Optimum), and the points from height order to
-- positions (Positions). Safe are the points whose cut needn't be tried, Comparisons the tests as a program makes them, and TieBreak
-- weights that find the preferred choice. The theorems are in the modules of these names in proofs/.
pub mod Recurrence
pub mod Optimum
pub mod Positions
pub mod Safe
pub mod Comparisons
pub mod TieBreak
-- BOOKKEEPING: what the tests say; what the halves of the optimum's proof speak of.
pub mod RecurrenceTests
pub mod Slabs
pub mod NoBetter
pub mod Recovered
pub mod Reached
pub mod Totals
pub mod Sums
