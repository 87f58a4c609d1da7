-- WHAT A READER MUST BELIEVE: the first clash, by tests. (Or believe the theorem of ClashPixels: it says the same over pixels and the
-- frame.)
pub mod FirstClash
-- A choice as flags, which contracts of the steps cite.
pub mod ChoiceFlags
-- WHAT THE THEOREM SAYS, which proofs/ClashPixels.antt proves: on an accepted sheet, the first clash is the first of the labels that leave
-- the map and the pairs of points that mark one pixel.
pub mod ClashPixels
