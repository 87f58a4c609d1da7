-- The room of the code is that of specs/PrintedText.antt. Assumes nothing.
use Rattle.std.specs.Prelude.{◌≡◌, refl}
use Rattle.print_plate.specs.PrintedText.{text_room}
use Rattle.print_plate.specs.declared.TheConstants.{TEXT_ROOM}

pub text-room : TEXT_ROOM ≡ text_room
text-room = refl
