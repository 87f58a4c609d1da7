-- The sizes of document 01 that come from its limit of 32 points. Assumes nothing.
use Rattle.std.specs.Prelude.{ℕ}

-- "n is 0 to 32": the most points of a sheet.
abbrev pub most_points : ℕ
most_points = 32

-- The bytes of the largest sheet: 10 + 6 · 32.
abbrev pub sheet_room : ℕ
sheet_room = 202

-- The bytes of the largest plate: "Has the output at least 12 + 8n bytes?", with n = 32.
abbrev pub plate_room : ℕ
plate_room = 268

-- "Is the workspace at least 32,768 numbers of 16 bits?"
abbrev pub workspace_cells : ℕ
workspace_cells = 32768
