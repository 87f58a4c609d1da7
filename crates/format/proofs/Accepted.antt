-- What an accepted sheet has: the questions 11 to 20 are all answered yes exactly if the sheet keeps the documents' rules. The crates
-- above rely on these facts. Assumes nothing.
use Rattle.std.specs.Prelude.{◌≡◌, List, ℕ}
use Rattle.format.specs.Sheet.{sheet_no}
use Rattle.format.specs.Accepted.{Accepted}
pub use Rattle.format.proofs.AcceptedQuestions.{none-ask, none_left, dec-up_to, dec-unlike, none-sheet, none-plate-sheet}

pub accepted : (s : List ℕ) → sheet_no s ≡ 0 → Accepted s
accepted s e = (none-sheet s).is e
