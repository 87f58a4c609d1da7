-- Answers by the number of their refusal. Assumes nothing.
use Rattle.std.specs.Prelude.{◌≡◌, ℕ, Result, Ok, Err}
use Rattle.format.specs.declared.refusal.Refusal.{Refusal}
use Rattle.format.specs.Answers.{number}

-- The answer with its refusal's number: "The first no ends the call with its number".
abbrev pub numbered : {A : Type 0} → Result A Refusal → Result A ℕ
numbered (Ok x) = Ok x
numbered (Err r) = Err (number r)

-- b is the answer a with a number in the place of its refusal, one that the refusal may be turned into.
abbrev pub ByNumber : {A N : Type 0} → (N → ℕ → Type 0) → Result A N → Result A ℕ → Type 0
ByNumber turned (Ok x) b = b ≡ Ok x
ByNumber turned (Err r) b = (k : ℕ) × turned r k × (b ≡ Err k)
