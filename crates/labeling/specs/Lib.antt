-- WHAT A READER MUST BELIEVE: the margin rule, the pixels that a point marks, valid, best, and preferred. `best` computes, so it asks the
-- test of Conflicts.
pub mod Points
pub mod Marks
pub mod Conflicts
pub mod Best
-- WHAT THEOREMS SPEAK OF BESIDES: the outside list (Margin, Order), marks and pairs (Pixels, ConflictTable), valid said of pixels alone
-- (Frame), and the best (Greatest). The theorems are in the modules of these names in proofs/.
pub mod Margin
pub mod Order
pub mod Pixels
pub mod Frame
pub mod ConflictTable
pub mod Greatest
