-- WHAT IS PROMISED of ordered_points: its number, and the array of the points, every cell of which is fixed (proofs/OrderedCells.antt,
-- `ordered-fixes`). Layout says where each field stands; Given is what each position weighs, and who may be inside.
pub mod Ordering
pub mod BothOrders
pub mod OrderedCells
pub mod Arrays
pub mod Layout
pub mod Given
-- BOOKKEEPING: numbers in four cells, arrays with cells written, ranks by counting, and what each step writes.
pub mod Words
pub mod Sums
pub mod Cells
pub mod Ranks
pub mod Orders
pub mod Numbers
pub mod GivenCells
pub mod HeightOrder
pub mod RightOrder
