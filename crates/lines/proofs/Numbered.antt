-- The theorems on the definitions of specs/Numbered.antt, and what they come to for load_line and mark_line. Assumes nothing.
use Rattle.std.specs.Prelude.{◌≡◌, ℕ, List, Result, Ok, Err}
use Rattle.std.proofs.Common.{ap, ◌∙◌, subst}
use Rattle.format.specs.declared.refusal.Refusal.{Refusal}
use Rattle.format.specs.Answers.{number}
use Rattle.lines.specs.Rooms.{line_room}
use Rattle.lines.specs.Writing.{Prints}
use Rattle.lines.specs.Numbered.{numbered, ByNumber}

-- A Refusal is turned into the document's number,
pub numbered-refusal : {A : Type 0} (a : Result A Refusal) (b : Result A ℕ) → ByNumber (λ r k. k ≡ number r) a b → b ≡ numbered a
numbered-refusal (Ok x) b e = e
numbered-refusal (Err r) b (k, f, e) = e ∙ ap Err f

-- and a number into itself.
pub numbered-number : {A : Type 0} (a b : Result A ℕ) → ByNumber (λ n k. k ≡ n) a b → b ≡ a
numbered-number (Ok x) b e = e
numbered-number (Err n) b (k, f, e) = e ∙ ap Err f

-- So the line of an answer, of a load or of a mark,
module _ {A : Type 0} (line : Result A ℕ → List ℕ) (o o' : List ℕ) (n : ℕ) where
  -- says the number of a Refusal,
  pub line-refusal : (a : Result A Refusal)
      → ((b : Result A ℕ) × ByNumber (λ r k. k ≡ number r) a b × Prints line_room (line b) o n o')
      → Prints line_room (line (numbered a)) o n o'
  line-refusal a (b, turned, printed) =
      subst (λ (x : Result A ℕ). Prints line_room (line x) o n o') (numbered-refusal a b turned) printed

  -- or the number that is handed over.
  pub line-number : (a : Result A ℕ)
      → ((b : Result A ℕ) × ByNumber (λ x k. k ≡ x) a b × Prints line_room (line b) o n o')
      → Prints line_room (line a) o n o'
  line-number a (b, turned, printed) =
      subst (λ (x : Result A ℕ). Prints line_room (line x) o n o') (numbered-number a b turned) printed
