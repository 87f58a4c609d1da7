-- THEOREMS OVER PIXELS: conflicts are shared pixels, and the test of validity decides it (Pixels, ConflictTable); a label on the map
-- (Frame); the outside list and the margin columns (Order, Margin), and the air between outer labels (Air); the best is reached and never
-- exceeded (Greatest); there is one preferred choice (Preferred); single pixels (Looks).
pub mod BeforeRows
pub mod Sorted
pub mod Margin
pub mod Order
pub mod Pixels
pub mod Frame
pub mod Air
pub mod ConflictTable
pub mod GreatestFrom
pub mod Greatest
pub mod PreferredFrom
pub mod Preferred
pub mod Looks
-- BOOKKEEPING: cases and tests; choices and weights that agree.
pub mod Decide
pub mod Every
pub mod Tests
pub mod AgreeMargin
pub mod Agree
pub mod SameWeights
