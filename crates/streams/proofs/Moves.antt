-- The theorems on the definitions of specs/Moves.antt. Assumes nothing.
use Rattle.std.specs.Prelude.{ℕ, ◌≤◌, ◌≡◌, List, length, Result, Ok}
use Rattle.std.proofs.Common.{sym, length-take-le}
use Rattle.io.specs.Counts.{IsPrefixLen}
use Rattle.streams.specs.declared.Failed.{Failed}
use Rattle.streams.specs.Moves.{ReadInto, WrittenOf}

-- LAWS, for those who call

pub counts : (n : ℕ) (buffer : List ℕ) → n ≤ length buffer → IsPrefixLen n buffer
counts n buffer h = (h, sym (length-take-le n buffer h))

pub read-counts : (buffer : List ℕ) (a : Result ℕ Failed) (n : ℕ) → ReadInto buffer a → a ≡ Ok n → IsPrefixLen n buffer
read-counts buffer a n h e = rw e at h

pub written-within : (text : List ℕ) (a : Result ℕ Failed) (n : ℕ) → WrittenOf text a → a ≡ Ok n → n ≤ length text
written-within text a n h e = rw e at h
