-- Walking a sheet: the point at a position, how many are left, and the place after it. Assumes nothing.
use Rattle.std.specs.Prelude.{cond, List, ℕ, ◌+◌, ◌-◌, ltb, Option, None, Some}
use Rattle.std.specs.Borrow.{Bor}
use Rattle.format.specs.Sheet.{point_count, call_number, column, row}
use Rattle.sheet_reader.specs.declared.reader.SheetPoint.{SheetPoint}
use Rattle.sheet_reader.specs.declared.reader.SheetReader.{SheetReader}

-- "per point its call number, column and row": the point at position i.
abbrev pub point_at : List ℕ → ℕ → SheetPoint
point_at s i = record { call_number = call_number s i; column = column s i; row = row s i }

-- How many points are left from position i on: n less i, 0 past the end.
abbrev pub left_at : List ℕ → ℕ → ℕ
left_at s i = point_count s - i

-- The place after position i: i + 1 where a point is left, else i.
abbrev pub place_after : List ℕ → ℕ → ℕ
place_after s i = cond (ltb i (point_count s)) (i + 1) i

-- "a reader that keeps the sheet's bytes and the next place"
abbrev pub reader_at : Bor (List ℕ) → ℕ → SheetReader
reader_at s i = record { sheet = s; next = i }

-- The same bytes, and the place after.
abbrev pub moved_on : SheetReader → SheetReader
moved_on r = reader_at r.sheet (place_after r.sheet.now r.next)

-- What the walk gives next: the position and its point, where a point is left.
abbrev pub walked : SheetReader → Option (ℕ × SheetPoint)
walked r = cond (ltb r.next (point_count r.sheet.now)) (Some (r.next, point_at r.sheet.now r.next)) None
