-- A sheet's fields over its bytes, and the first no of its questions (document 01, "Sheet and plate as bytes" and "Questions in their
-- order", and document 02 (c)). A field past the end of the bytes reads 0, so each is defined on any bytes. Assumes nothing.
use Rattle.std.specs.Prelude.{Bool, cond, not, ◌&&◌, List, ℕ, zero, suc, ◌+◌, ◌*◌, ltb, leb, eqb, length, get_or}
use Rattle.labeling.specs.Points.{Points}
use Rattle.labeling.specs.Conflicts.{every}

-- "Two-byte numbers have the low byte first": the number at place k.
unfoldable pub two_bytes : List ℕ → ℕ → ℕ
two_bytes s k = get_or s k 0 + 256 * get_or s (k + 1) 0

-- "Sheet: the frame count 1; map width, map height, label width w, label height h (two bytes each). Then the point count n"
abbrev pub frame_count : List ℕ → ℕ
frame_count s = get_or s 0 0

abbrev pub map_width : List ℕ → ℕ
map_width s = two_bytes s 1

abbrev pub map_height : List ℕ → ℕ
map_height s = two_bytes s 3

abbrev pub label_width : List ℕ → ℕ
label_width s = two_bytes s 5

abbrev pub label_height : List ℕ → ℕ
label_height s = two_bytes s 7

abbrev pub point_count : List ℕ → ℕ
point_count s = get_or s 9 0

-- "A sheet has 10 + 6n bytes."
abbrev pub sheet_length : List ℕ → ℕ
sheet_length s = 10 + 6 * point_count s

-- "per point its call number, column and row (two bytes each)"
abbrev pub call_number : List ℕ → ℕ → ℕ
call_number s i = two_bytes s (10 + 6 * i)

abbrev pub column : List ℕ → ℕ → ℕ
column s i = two_bytes s (12 + 6 * i)

abbrev pub row : List ℕ → ℕ → ℕ
row s i = two_bytes s (14 + 6 * i)

-- The sheet's figures as labeling has them.
abbrev pub points_of : List ℕ → Points
points_of s = record {
  n = point_count s;
  map_width = map_width s;
  map_height = map_height s;
  w = label_width s;
  h = label_height s;
  column = column s;
  row = row s;
}

-- QUESTIONS: the number of a question is given where its answer is no; otherwise the questions after it decide.
abbrev pub ask : Bool → ℕ → ℕ → ℕ
ask answer k after = cond answer after k

-- The first no of two lists of questions, asked one after the other: the first list's, unless that is 0.
abbrev pub then_no : ℕ → ℕ → ℕ
then_no first later = cond (eqb first 0) later first

-- "Map sides are 1 to 4,096, label sides 1 to 256, ... call numbers 1 to 9,999."
abbrev pub up_to : ℕ → ℕ → Bool
up_to most x = leb 1 x && leb x most

-- "Are both map sides allowed?" "Both label sides?"
abbrev pub both_up_to : ℕ → ℕ → ℕ → Bool
both_up_to most x y = up_to most x && up_to most y

-- "Are column and row on the map?"
abbrev pub on_map : List ℕ → ℕ → ℕ → Bool
on_map s c r = ltb c (map_width s) && ltb r (map_height s)

-- Positions j and i have one call number.
abbrev pub same_call : List ℕ → ℕ → ℕ → Bool
same_call s j i = eqb (call_number s j) (call_number s i)

-- Positions j and i stand on one pixel.
abbrev pub same_pixel : List ℕ → ℕ → ℕ → Bool
same_pixel s j i = eqb (row s j) (row s i) && eqb (column s j) (column s i)

-- "unlike every earlier one": no position below i is like i.
unfoldable pub unlike_earlier : (ℕ → ℕ → Bool) → ℕ → Bool
unlike_earlier like i = every (λ j. not (like j i)) i

-- "is the call number allowed? 17. Are column and row on the map? 18. Is the call number unlike every earlier one? 19." And document 02
-- (c): "Points may now share a row if their columns differ", so "20 is kept for two points on one pixel". Of position i, 0 if there is no
-- no.
unfoldable pub point_no : List ℕ → ℕ → ℕ
point_no s i =
    ask (up_to 9999 (call_number s i)) 17
    (ask (on_map s (column s i) (row s i)) 18
    (ask (unlike_earlier (same_call s) i) 19
    (ask (unlike_earlier (same_pixel s) i) 20
    0)))

-- "Point by point": the first no of the positions below m.
unfoldable pub points_no : List ℕ → ℕ → ℕ
points_no s zero = 0
points_no s (suc m) = then_no (points_no s m) (point_no s m)

-- "Are there at least 10 bytes? 11. Is the first byte 1? 12. Are both map sides allowed? 13. Both label sides? 14. Is n at most 32? 15.
-- Is the length 10 + 6n? 16. (In a plate: at least that.)" and then point by point. `fits` answers 16.
unfoldable pub questions_no : List ℕ → Bool → ℕ
questions_no s fits =
    ask (leb 10 (length s)) 11
    (ask (eqb (frame_count s) 1) 12
    (ask (both_up_to 4096 (map_width s) (map_height s)) 13
    (ask (both_up_to 256 (label_width s) (label_height s)) 14
    (ask (leb (point_count s) 32) 15
    (ask fits 16
    (points_no s (point_count s)))))))

-- The first no of a sheet, 0 if there is none.
unfoldable pub sheet_no : List ℕ → ℕ
sheet_no s = questions_no s (eqb (length s) (sheet_length s))

-- The first no of the sheet at the start of a plate, 0 if there is none.
unfoldable pub plate_sheet_no : List ℕ → ℕ
plate_sheet_no p = questions_no p (leb (sheet_length p) (length p))
