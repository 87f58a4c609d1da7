-- WHAT FOLLOWS from the promise of ordered_points: what the array holds (BothOrders, GivenLaws), and that the promise fixes it
-- (OrderedCells).
pub mod BothOrders
pub mod OrderedCells
pub mod GivenLaws
-- BOOKKEEPING: numbers in four cells, arrays with cells written, ranks by counting, and what each step writes.
pub mod Words
pub mod Sums
pub mod Cells
pub mod RanksLaws
pub mod Orders
pub mod NumbersLaws
pub mod GivenCells
pub mod HeightOrder
pub mod Fits
pub mod RightOrder
