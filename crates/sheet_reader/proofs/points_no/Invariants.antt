use Rattle.std.proofs.Common.{◌≡◌, ◌≤◌}
use Rattle.format.specs.Sheet.{point_count, points_no}
use Rattle.sheet_reader.proofs.points_no.Given as goal

-- the reader keeps the sheet, and no point before its place has a no
abbrev pub invariant-loop-position : goal.invariant-loop-position
invariant-loop-position l =
    (l.position-iterator.sheet.now ≡ l.sheet)
    × (l.position-iterator.next ≤ point_count l.sheet)
    × (points_no l.sheet l.position-iterator.next ≡ 0)
