-- What print_plate prints: "The printing program, given this sheet on standard input, writes exactly" a listing, or "A refusal prints one
-- line" (document 01, "Plates worked out", P1). Assumes nothing.
use Rattle.std.specs.Prelude.{cond, List, ℕ, eqb, None}
use Rattle.format.specs.Sizes.{plate_room, workspace_cells}
use Rattle.format.specs.MakingQuestions.{making_no}
use Rattle.format.specs.Plate.{best_plate}
use Rattle.lines.specs.Listing.{listing_of}
use Rattle.lines.specs.DeskLines.{refusal_line}

-- The text of the sheet s where the first no of making is k: the listing of its best plate, or the line of the refusal. No rank list is
-- lent.
abbrev pub text_by : ℕ → List ℕ → List ℕ
text_by k s = cond (eqb k 0) (listing_of (best_plate s None)) (refusal_line k)

-- THE PRINTED TEXT of the sheet s: the output has room for every plate, and the workspace the cells that it needs.
unfoldable pub printed_text : List ℕ → List ℕ
printed_text s = text_by (making_no s None plate_room workspace_cells) s

-- the room for every text: the listing of 32 points has at most 24 + 16 · 32 bytes
abbrev pub text_room : ℕ
text_room = 536
