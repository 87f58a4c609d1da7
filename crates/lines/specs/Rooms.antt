-- How many bytes are enough for what is printed. Assumes nothing.
use Rattle.std.specs.Prelude.{ℕ, ◌+◌, ◌*◌}

-- For the word of a clash's kind.
abbrev pub kind_room : ℕ
kind_room = 9

-- For a verdict.
abbrev pub verdict_room : ℕ
verdict_room = 27

-- For every line but those of a listing.
abbrev pub line_room : ℕ
line_room = 33

-- For line one of a listing.
abbrev pub first_line_room : ℕ
first_line_room = 24

-- For the line of a point.
abbrev pub point_room : ℕ
point_room = 16

-- For the lines of n points.
abbrev pub points_room : ℕ → ℕ
points_room n = point_room * n

-- For the listing of n points.
abbrev pub listing_room : ℕ → ℕ
listing_room n = first_line_room + points_room n

-- The most points that a count byte says: the listing is defined on any bytes.
abbrev pub most_points : ℕ
most_points = 255
