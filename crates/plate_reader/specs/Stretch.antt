-- A part of lent bytes that is returned. Assumes nothing.
use Rattle.std.specs.Prelude.{◌≡◌, List, ℕ, ◌+◌}
use Rattle.std.specs.Borrow.{Bor}

-- "the very stretch of the plate that holds it": the part holds the bytes, in the memory of the whole and `from` bytes after its start.
pub record Stretch (part whole : Bor (List ℕ)) (from : ℕ) (bytes : List ℕ) : Type 0 where
  pub holds : part.now ≡ bytes
  pub memory : part.ref_ptr.0 ≡ whole.ref_ptr.0
  pub place : part.ref_ptr.1 ≡ whole.ref_ptr.1 + from
