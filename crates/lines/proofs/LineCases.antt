-- Texts worked out by hand: one table of listings, and a line of each kind of the desk's. Assumes nothing.
use Rattle.std.specs.Prelude.{◌≡◌, refl, Bool, true, ◌&&◌, List, [], ◌∷◌, ◌++◌, ℕ, replicate, Result, Ok, Err}
use Rattle.labeling.specs.Points.{among}
use Rattle.labeling.proofs.Decide.{and_left, and_right}
use Rattle.format.specs.declared.refusal.Refusal.TheVariants.{WorkspaceRoom, NoSheet, RankCount}
use Rattle.format.specs.Bytes.{same_bytes}
use Rattle.format.proofs.Bytes.{dec-bytes}
use Rattle.format.specs.Padded.{padded}
use Rattle.format.specs.Sheet.{two_bytes}
use Rattle.clash.specs.declared.ClashKind.TheVariants.{Labels, LabelAndLeader, Overhang, TwoLeaders}
use Rattle.desk.specs.Desk.{held_of, with_held, fresh}
use Rattle.desk.specs.declared.Desk.{Desk}
use Rattle.desk.specs.declared.Marked.{Marked}
use Rattle.desk.specs.declared.Verdict.{Verdict}
use Rattle.desk.specs.declared.Verdict.TheVariants.{Valid, Clash}
use Rattle.plate_reader.proofs.Cases.{sheet, sheet1, sheet2, sheet_of_five, stacked}
use Rattle.plate_reader.specs.PlateQuestions.{inside_list, outside_pairs}
use Rattle.lines.specs.Text.{ascii, decimal_in, decimal, spaced}
use Rattle.lines.specs.Numbered.{numbered}
use Rattle.lines.specs.Listing.{columns_used, margin_of, first_line, place, point_line, point_lines, listing_of}
use Rattle.lines.specs.DeskLines.{refusal_line, loaded_line, load_line, valid_text, clash_text, marked_line, mark_line}

-- LISTINGS

-- A plate's bytes and its listing.
pub record Listed : Type 0 where
  pub plate : List ℕ
  pub text : List ℕ

abbrev pub table : List Listed
table =
    -- P1: "writes exactly"
    record { plate = sheet1 ++ 2 ∷ 1 ∷ 2 ∷ 1 ∷ 0 ∷ 0 ∷ []; text = ascii "plate 3 2 1\n17 out 0\n18 in\n19 in\n" } ∷
    -- the outside points take columns 0, 1, 0: two columns are used
    record {
      plate = sheet_of_five ++ 2 ∷ 0 ∷ 1 ∷ 3 ∷ 2 ∷ 0 ∷ 3 ∷ 1 ∷ 4 ∷ 0 ∷ [];
      text = ascii "plate 5 2 2\n1 in\n2 in\n3 out 0\n4 out 1\n5 out 0\n";
    } ∷
    -- P9: the outside points take columns 0, 1, 2
    record { plate = stacked 6 ++ 0 ∷ 3 ∷ 0 ∷ 0 ∷ 1 ∷ 1 ∷ 2 ∷ 2 ∷ []; text = ascii "plate 3 0 3\n1 out 0\n2 out 1\n3 out 2\n" } ∷
    -- P2: the first point in column 1, the second in column 0
    record { plate = sheet2 ++ 1 ∷ 2 ∷ 2 ∷ 1 ∷ 0 ∷ 0 ∷ 1 ∷ []; text = ascii "plate 3 1 2\n1 out 1\n2 out 0\n3 in\n" } ∷
    -- P10: no point
    record { plate = sheet 4 2 0 (0 ∷ 0 ∷ []); text = ascii "plate 0 0 0\n" } ∷
    -- call numbers of three and of four digits, with zeros in them
    record {
      plate = sheet 4 2 2 (100 ∷ 0 ∷ 2 ∷ 0 ∷ 3 ∷ 0 ∷ 232 ∷ 3 ∷ 6 ∷ 0 ∷ 4 ∷ 0 ∷ 2 ∷ 0 ∷ 1 ∷ 0 ∷ []);
      text = ascii "plate 2 2 0\n100 in\n1000 in\n";
    } ∷
    -- no plate: no bytes at all; P1 without its last byte, the margin column of its pair; P1's sheet alone
    record { plate = []; text = ascii "plate 0 0 0\n" } ∷
    record { plate = sheet1 ++ 2 ∷ 1 ∷ 2 ∷ 1 ∷ 0 ∷ []; text = ascii "plate 3 2 0\n17 out 0\n18 in\n19 in\n" } ∷
    record { plate = sheet1; text = ascii "plate 3 0 0\n17 out 0\n18 out 0\n19 out 0\n" } ∷ []

abbrev pub Each : List Listed → Type 0
Each [] = Unit {0}
Each (c ∷ cs) = (listing_of c.plate ≡ c.text) × Each cs

abbrev each_b : List Listed → Bool
each_b [] = true
each_b (c ∷ cs) = same_bytes (listing_of c.plate) c.text && each_b cs

each : (cs : List Listed) → each_b cs ≡ true → Each cs
each [] e = tt
each (c ∷ cs) e = ((dec-bytes _ _).is (and_left _ _ e), each cs (and_right (same_bytes (listing_of c.plate) c.text) _ e))

-- THE TABLE'S THEOREM: every plate has its listing.
pub all_listed : Each table
unfolding two_bytes among inside_list outside_pairs decimal_in decimal spaced columns_used
    margin_of first_line place point_line point_lines listing_of
all_listed = each table refl

-- THE DESK'S LINES, and a refusal's

pub refused-16 : refusal_line 16 ≡ ascii "refused 16\n"
unfolding decimal_in decimal spaced refusal_line
refused-16 = refl

-- A desk with a sheet of 12 points whose best sum is 10, and one of 32 points of rank 9 that are all inside.
abbrev twelve : Desk
twelve = with_held fresh (held_of (1 ∷ 20 ∷ 0 ∷ 10 ∷ 0 ∷ 4 ∷ 0 ∷ 2 ∷ 0 ∷ 12 ∷ []) (replicate 12 1 ++ replicate 20 0) 10)

abbrev greatest : Desk
greatest = with_held fresh (held_of (1 ∷ 20 ∷ 0 ∷ 10 ∷ 0 ∷ 4 ∷ 0 ∷ 2 ∷ 0 ∷ 32 ∷ []) (replicate 32 9) 288)

pub load-lines : (load_line (Ok tt) twelve ≡ ascii "loaded 12 10\n") × (load_line (Ok tt) greatest ≡ ascii "loaded 32 288\n")
    × (load_line (numbered (Err WorkspaceRoom)) twelve ≡ ascii "refused 22\n") × (load_line (numbered (Err RankCount)) twelve ≡ ascii "refused 62\n")
unfolding padded decimal_in decimal spaced refusal_line loaded_line
load-lines = (refl, refl, refl, refl)

abbrev marked : ℕ → Verdict → Result Marked ℕ
marked number verdict = Ok (record { number = number; verdict = verdict })

-- "On P1, a fresh desk gives list 02 01 02 number 1, count 2, shortfall 0; 01 00 number 2, clash of 0 and 1; 00 number 3, shortfall 2."
pub mark-lines :
    (mark_line (marked 1 (Valid 2 0)) ≡ ascii "1 valid 2 0\n") ×
    (mark_line (marked 2 (Clash 0 1 LabelAndLeader)) ≡ ascii "2 clash 0 1 leader\n") ×
    (mark_line (marked 3 (Valid 0 2)) ≡ ascii "3 valid 0 2\n") ×
    (mark_line (marked 120 (Clash 9 31 Labels)) ≡ ascii "120 clash 9 31 labels\n") ×
    (mark_line (marked 4 (Clash 0 0 Overhang)) ≡ ascii "4 clash 0 0 overhang\n") ×
    (mark_line (marked 5 (Clash 0 1 TwoLeaders)) ≡ ascii "5 clash 0 1 leaders\n") ×
    (mark_line (marked 6 (Valid 288 0)) ≡ ascii "6 valid 288 0\n") ×
    (mark_line (marked 7 (Valid 0 288)) ≡ ascii "7 valid 0 288\n") ×
    (mark_line (numbered (Err NoSheet)) ≡ ascii "refused 51\n")
unfolding decimal_in decimal spaced refusal_line valid_text clash_text marked_line
mark-lines = (refl, refl, refl, refl, refl, refl, refl, refl, refl)
