-- WHAT A READER MUST BELIEVE: a plate's sections, its questions 41 to 44, what is handed back, and what an answer says.
pub mod PlateQuestions
pub mod Stretch
pub mod PlateAnswers
-- WHAT THEOREMS SAY: demand 2, the reader's half; what the questions ask, as facts. The theorems are in the modules of these names in
-- proofs/.
pub mod DemandTwoReader
pub mod PlateSections
-- Worked cases: the table of P1 to P10 and those of document 02. Its theorem is in proofs/Cases.antt.
pub mod Cases
-- Bookkeeping for proofs: the walk by which the code answers 43.
pub mod OutsideWalk
