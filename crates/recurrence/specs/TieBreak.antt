-- Weights that break every tie of up to 32 points: with them the best choice is the preferred one (proofs/TieBreak.antt). A method of
-- finding it, which no statement about best choices needs. Assumes nothing.
use Rattle.std.specs.Prelude.{ℕ, ◌+◌, ◌*◌, ◌-◌, ◌^◌}

-- Position i of 32 adds 2^(31 - i) ...
unfoldable pub tie_break : ℕ → ℕ
tie_break i = 2 ^ (31 - i)

-- ... to 2^32 times its weight.
unfoldable pub tie_broken : (ℕ → ℕ) → ℕ → ℕ
tie_broken v i = v i * 4294967296 + tie_break i
