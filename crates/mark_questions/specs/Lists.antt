-- What the questions of a mark ask, as facts. proofs/Lists.antt shows that a list without a no is its count byte and an ascending list of
-- positions below n. Assumes nothing.
use Rattle.std.specs.Prelude.{◌≡◌, true, List, ℕ, ◌+◌, ◌<◌, length, get_or}
use Rattle.format.specs.Ascending.{ascending}
use Rattle.mark_questions.specs.MarkQuestions.{positions}

-- THE QUESTIONS OF A LIST

-- 31: there is a count byte, and the length is 1 plus it.
abbrev pub Counted : List ℕ → Type 0
Counted l = (0 < length l) × (length l ≡ 1 + get_or l 0 0)

-- "A mark takes a list: a count byte, then that many positions, one byte each, strictly ascending", each below n.
pub record Listed (n : ℕ) (l : List ℕ) : Type 0 where
  pub counted : Counted l
  pub up : ascending n (positions l) ≡ true
