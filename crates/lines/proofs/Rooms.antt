-- The rooms of the code are those of specs/Rooms.antt. Assumes nothing.
use Rattle.std.specs.Prelude.{◌≡◌, refl}
use Rattle.lines.specs.Rooms.{line_room, listing_room, most_points}
use Rattle.lines.specs.declared.TheConstants.{LINE_ROOM, LISTING_ROOM}

pub line-room : LINE_ROOM ≡ line_room
line-room = refl

pub listing-room : LISTING_ROOM ≡ listing_room most_points
listing-room = refl
