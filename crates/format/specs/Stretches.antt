-- Two stretches of one length. Assumes nothing.
use Rattle.std.specs.Prelude.{Bool, ◌&&◌, ℕ, ◌+◌, ltb}

-- The places from a on and those from b on, as many as the length says, have one in common.
abbrev pub stretches_overlap : ℕ → ℕ → ℕ → Bool
stretches_overlap a b length = ltb a (b + length) && ltb b (a + length)
