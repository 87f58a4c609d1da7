-- `plate_reader::inside_list` meets its contract. Assumes nothing.
use Rattle.std.proofs.Common.{◌≡◌, sym, ap, ◌∙◌, arith}
use Rattle.format.specs.Answers.{no_of}
use Rattle.plate_reader.specs.PlateQuestions.{plate_no}
use Rattle.plate_reader.proofs.PlateSections.{dec-fit}
use Rattle.plate_reader.proofs.Laws.{accepted-list, accepted-at, accepted-fits}
use Rattle.plate_reader.proofs.inside_list.Goals as goal

pub returns-in-Ok : goal.returns-in-Ok
returns-in-Ok c =
    let p = c.args.plate.now in
    let e : plate_no p ≡ 0 = sym c.plate_no.ensures ∙ ap no_of c.in-Ok.is in
    let part = c.inside_positions.ensures in
    let ends = ((dec-fit p).is (accepted-fits p e)).ends in
    record { holds = part.holds ∙ accepted-list p e; memory = part.memory; place = omega (arith, part.place, accepted-at p e, ends) }
