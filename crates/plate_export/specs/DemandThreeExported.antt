-- DEMAND 3 OF THE EXPORTED CALLS. Its theorem, in desk's proofs/DemandThreeProof.antt, speaks of the desk after any calls and of the plates
-- made. proofs/DemandThreeExported.antt shows that these are what the exported calls hand back and write, so that it is a theorem about
-- them. Assumes nothing.
use Rattle.desk.specs.Desk.{fresh, load_of, mark_of}
use Rattle.desk.specs.declared.Desk.{Desk}
use Rattle.desk.specs.Calls.{Call, load, mark, Calls, no_calls, ◌and_then◌}
use Rattle.plate_export.specs.ExportedDesk.{load_reply, mark_reply}

-- The desk that a call hands back: the terms of the contracts of desk_load and desk_load_ranked, by whether a list is lent, and of
-- desk_mark.
abbrev pub handed_back : Desk → Call → Desk
handed_back d (load s r w) = (load_reply (load_of d s r w)).desk
handed_back d (mark l) = (mark_reply (mark_of d l)).desk

-- The desk after these exported calls: desk_new's at first, and each call gets the one that the call before it handed back.
unfoldable pub exported_after : Calls → Desk
exported_after no_calls = fresh
exported_after (calls and_then c) = handed_back (exported_after calls) c
