-- Text as bytes: words in ASCII, and numbers in decimal. Assumes nothing.
use Rattle.std.specs.Prelude.{cond, List, [], ◌∷◌, ◌++◌, ℕ, zero, suc, ◌+◌, ◌-◌, ◌*◌, ◌/◌, ◌%◌, ltb}
use Prim.Native.String.{String, len, char_at}
use Prim.Native.Char.{code}

-- The codes of the k characters from the place `at` on.
abbrev codes_from : String → ℕ → ℕ → List ℕ
codes_from word at zero = []
codes_from word at (suc k) = code (char_at word at) ∷ codes_from word (suc at) k

-- A word in ASCII.
abbrev pub ascii : String → List ℕ
ascii word = codes_from word 0 (len word)

-- The code of a digit.
abbrev pub digit : ℕ → ℕ
digit d = 48 + d

-- A number in decimal, where it has at most k digits: one digit, or the number without its last digit and then that one.
unfoldable pub decimal_in : ℕ → ℕ → List ℕ
decimal_in zero n = []
decimal_in (suc k) n = cond (ltb n 10) (digit n ∷ []) (decimal_in k (n / 10) ++ digit (n % 10) ∷ [])

-- A number in decimal, without leading zeros. It has at most n + 1 digits.
unfoldable pub decimal : ℕ → List ℕ
decimal n = decimal_in (suc n) n

-- A number after a space.
unfoldable pub spaced : ℕ → List ℕ
spaced n = ascii " " ++ decimal n

-- READING BACK

-- The number before, with the digits after it.
abbrev pub read_from : ℕ → List ℕ → ℕ
read_from n [] = n
read_from n (c ∷ l) = read_from (10 * n + (c - 48)) l

-- The number that the digits say.
abbrev pub read_decimal : List ℕ → ℕ
read_decimal l = read_from 0 l
