-- A load with 61 keeps the sheet before it: P1, and then document 02 (c)'s sheet without a valid choice. Assumes nothing.
use Rattle.std.specs.Prelude.{◌≡◌, true, List, ℕ, length, replicate, None, Some}
use Rattle.std.proofs.Math.Path.{ap}
use Rattle.std.proofs.Common.{◌∙◌, arith}
use Rattle.format.specs.Sizes.{workspace_cells}
use Rattle.format.specs.Answers.{no_of, outcome}
use Rattle.format.proofs.Accepted.{accepted}
use Rattle.format.proofs.RightRanks.{none_right}
use Rattle.format.specs.MakingQuestions.{workspace_after, load_no}
use Rattle.format.proofs.MakingQuestions.{none-choice, none-load}
use Rattle.plate_reader.proofs.Cases.{sheet1, all_right}
use Rattle.plate_reader.proofs.Refusals.{crowded, crowded-61}
use Rattle.desk.specs.Desk.{load_of}
use Rattle.desk.specs.Calls.{load, Calls, no_calls, ◌and_then◌, desk_after, last_taken}
use Rattle.desk.specs.DemandThree.{LoadRight}
use Rattle.desk.proofs.DemandThreeProof.{demand-three}

-- P1 is loaded: it is accepted, and 61 is answered yes.
first-loaded : load_no sheet1 None workspace_cells ≡ 0
first-loaded =
    let c = all_right.0 in
    let a = accepted sheet1 c.accepted in
    (none-load sheet1 None workspace_cells).of
    (((a, (omega arith, tt)), none_right _), (none-choice sheet1 a).is c.expected.1)

-- With a workspace w that is just large enough.
module _ (w : List ℕ) (cells : length w ≡ workspace_cells) where
  abbrev loaded : Calls
  loaded = no_calls and_then load sheet1 None w

  number : load_no crowded None (length w) ≡ 61
  number = ap (load_no crowded None) cells ∙ crowded-61.0.loading

  -- What the load of the crowded sheet comes to.
  pub record Kept : Type 0 where
    pub refused : outcome (load_of (desk_after loaded) crowded None w).answer ≡ record { refused = true; no = 61 }
    pub workspace : workspace_after (no_of (load_of (desk_after loaded) crowded None w).answer) w ≡ replicate (length w) 0
    pub desk : desk_after (loaded and_then load crowded None w) ≡ desk_after loaded
    pub sheet : last_taken (loaded and_then load crowded None w) ≡ Some (record { sheet = sheet1; ranks = None })

  pub sheet-kept : Kept
  unfolding desk_after last_taken
  sheet-kept =
      let r : LoadRight loaded crowded None w = (demand-three loaded).load crowded None w in
      let ne : load_no crowded None (length w) ≡ 0 → ⊥ = λ z. (let e = number in omega arith) in
      record {
        refused = r.refused ne ∙ ap (λ k. record { refused = true; no = k }) number;
        workspace = r.zeroed-61 number;
        desk = r.same-desk ne;
        sheet = rw (number, cells, first-loaded);
      }
