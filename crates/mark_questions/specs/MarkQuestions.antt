-- The questions of a mark (document 01, "Questions in their order"), on any bytes. A byte past the end of a list reads 0. Assumes nothing.
use Rattle.std.specs.Prelude.{Bool, true, ◌&&◌, List, ℕ, zero, suc, ◌+◌, ltb, eqb, length, get_or, drop}
use Rattle.format.specs.Sheet.{ask, then_no}

-- A LIST: "A mark takes a list: a count byte, then that many positions, one byte each, strictly ascending."

-- The bytes after the count byte.
abbrev pub positions : List ℕ → List ℕ
positions l = drop 1 l

-- "Its count is the number of its positions."
abbrev pub list_count : List ℕ → ℕ
list_count l = length (positions l)

-- "Is there a count byte, and does the length equal 1 plus it? 31."
unfoldable pub count_right : List ℕ → Bool
count_right l = ltb 0 (length l) && eqb (length l) (1 + get_or l 0 0)

-- "Above the entry before?": entry k of the positions p; the first has none before it.
abbrev pub above_before : List ℕ → ℕ → Bool
above_before p zero = true
above_before p (suc k) = ltb (get_or p k 0) (get_or p (suc k) 0)

-- "below n? 32. Above the entry before? 33": of entry k, 0 if there is no no.
unfoldable pub entry_no : ℕ → List ℕ → ℕ → ℕ
entry_no n p k = ask (ltb (get_or p k 0) n) 32 (ask (above_before p k) 33 0)

-- "Entry by entry": the first no of the first m entries.
unfoldable pub entries_no : ℕ → List ℕ → ℕ → ℕ
entries_no n p zero = 0
entries_no n p (suc m) = then_no (entries_no n p m) (entry_no n p m)

-- 31 to 33, where the sheet has n points.
unfoldable pub list_no : ℕ → List ℕ → ℕ
list_no n l = ask (count_right l) 31 (entries_no n (positions l) (list_count l))

-- A MARK

-- "Is a sheet loaded? 51." and then 31 to 33: what a mark asks of its list.
unfoldable pub loaded_list_no : Bool → ℕ → List ℕ → ℕ
loaded_list_no loaded n l = ask loaded 51 (list_no n l)

-- "Is the last number below 9,999?"
abbrev pub number_left : ℕ → Bool
number_left last = ltb last 9999

-- The first no of a mark, 0 if there is none; 52 comes last.
unfoldable pub mark_no : Bool → ℕ → ℕ → List ℕ → ℕ
mark_no loaded n last l = then_no (loaded_list_no loaded n l) (ask (number_left last) 52 0)
