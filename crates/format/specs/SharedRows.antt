-- What document 02 (c) says of numbers: "Sheets with distinct rows get the answers they had". proofs/SharedRows.antt proves it, and that 61
-- comes exactly if no choice of the sheet is valid, and never from the sheet's own questions. Assumes nothing.
use Rattle.std.specs.Prelude.{◌≡◌, Bool, List, eqb, Option}
use Prim.Native.Nat.{ℕ, zero, suc}
use Rattle.format.specs.Sheet.{point_count, call_number, column, row}
use Rattle.format.specs.Sheet.{ask, then_no, up_to, on_map, same_call, unlike_earlier, points_no}
use Rattle.format.specs.MakingQuestions.{asked_no, output_fits, making_no, load_asked_no}
use Rattle.format.specs.MakingQuestions.{load_no}

-- The number k isn't 61.
abbrev pub Other : ℕ → Type 0
Other k = k ≡ 61 → ⊥

-- "SHEETS WITH DISTINCT ROWS GET THE ANSWERS THEY HAD"

-- Positions j and i have one row.
abbrev pub same_row : List ℕ → ℕ → ℕ → Bool
same_row s j i = eqb (row s j) (row s i)

-- Document 01's questions of position i: 20 is "The row unlike every earlier one?".
unfoldable pub point_no_by_row : List ℕ → ℕ → ℕ
point_no_by_row s i =
    ask (up_to 9999 (call_number s i)) 17
    (ask (on_map s (column s i) (row s i)) 18
    (ask (unlike_earlier (same_call s) i) 19
    (ask (unlike_earlier (same_row s) i) 20
    0)))

-- The first no of the positions below m, by these.
unfoldable pub points_no_by_row : List ℕ → ℕ → ℕ
points_no_by_row s zero = 0
points_no_by_row s (suc m) = then_no (points_no_by_row s m) (point_no_by_row s m)

-- Of bytes with distinct rows: point by point the number is that of document 01's questions (11 to 16, before that, are document 01's); and
-- 61 never comes, so that a making and a load have the number of the questions before it.
pub record AnswersKept (s : List ℕ) : Type 0 where
  pub points : points_no s (point_count s) ≡ points_no_by_row s (point_count s)
  pub making : (r : Option (List ℕ)) (room cells : ℕ) → making_no s r room cells ≡ asked_no s r (output_fits s room) cells
  pub loading : (r : Option (List ℕ)) (cells : ℕ) → load_no s r cells ≡ load_asked_no s r cells
