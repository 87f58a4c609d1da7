-- Flags by height order, copied to a choice by position one by one. Assumes nothing.
use Rattle.std.specs.Prelude.{◌≡◌, ℕ, ◌≤◌, Bool, List}
use Rattle.orders.specs.Arrays.{position_at}
use Rattle.optimum.specs.Split.{flagged}

-- The flags of the points 1 to m are copied.
abbrev pub CopiedTo : (heights : List ℕ) → (flags inside : List Bool) → ℕ → Type 0
CopiedTo heights flags inside m = (i : ℕ) → 1 ≤ i → i ≤ m → flagged inside (position_at heights i) ≡ flagged flags i
