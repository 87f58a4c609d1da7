-- TO BE BELIEVED: the questions of a mark.
pub mod MarkQuestions
-- WHAT THEOREMS SAY (proofs/): what a list without a no is.
pub mod Lists
