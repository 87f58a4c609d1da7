-- WHAT A READER MUST BELIEVE: the bytes of sheets and plates and the questions, as documents 01 and 02 have them.
pub mod Sizes
pub mod Sheet
pub mod RankList
pub mod Plate
pub mod Ascending
pub mod MakingQuestions
-- Definitions that contracts and other crates' definitions cite: what an answer says, when two lists of bytes are the same, bytes in lent
-- or longer arrays, and two stretches that overlap.
pub mod Answers
pub mod Bytes
pub mod Written
pub mod Padded
pub mod Stretches
-- WHAT THEOREMS SAY: what an accepted sheet has, and a right rank list; what document 02 (c) promises sheets with distinct rows; lists of
-- bytes; answers without a rank list. The theorems are in the modules of these names in proofs/.
pub mod Accepted
pub mod RightRanks
pub mod SharedRows
pub mod PlateBytes
pub mod Unranked
