-- DEMAND 2, PROVED: `demand-two` says of any bytes that are read, and of any plate that is made, what specs/DemandTwo.antt claims.
-- Assumes nothing.
use Rattle.std.specs.Prelude.{List, ℕ, take, Option, Ok}
use Rattle.labeling.specs.Marks.{Valid}
use Rattle.format.specs.Sheet.{points_of}
use Rattle.format.specs.Plate.{best_choice_of, best_plate}
use Rattle.format.proofs.Accepted.{none-sheet}
use Rattle.plate_reader.specs.DemandTwoReader.{PlateOfChoice, ReadRight}
use Rattle.plate_reader.proofs.DemandTwoReader.{demand-two-reader}
use Rattle.plate_maker.specs.Making.{Making}
use Rattle.plate_maker.proofs.MakingLaws.{made-accepted, made-preferred, made-start}
use Rattle.plate_maker.specs.DemandTwo.{MadeRight, DemandTwo}

made-right : (s : List ℕ) (r : Option (List ℕ)) (o w o' w' : List ℕ) (k : ℕ) → Making s r o w (Ok k) o' w' → MadeRight s (take k o')
unfolding best_plate
made-right s r o w o' w' k m =
    let v : Valid (points_of s) (best_choice_of s r) = (made-preferred m).best.valid in
    let x : PlateOfChoice (take k o') = record {
      sheet = s;
      choice = best_choice_of s r;
      accepted = (none-sheet s).of (made-accepted m);
      valid = v;
      plate = made-start m;
    } in
    let read : ReadRight (take k o') = demand-two-reader (take k o') in
    record { choice = best_choice_of s r; valid = v; plate = made-start m; accepted = read.accepts.1 x; inside = read.inside x }

pub demand-two : DemandTwo
demand-two = record { reads = demand-two-reader; made = made-right }
