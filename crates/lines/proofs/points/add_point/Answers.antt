-- `lines::points::add_point` meets its contract. Assumes nothing.
use Rattle.std.proofs.Common.{◌≡◌, arith}
use Rattle.labeling.specs.Points.{among}
use Rattle.format.specs.Sheet.{call_number}
use Rattle.plate_reader.specs.PlateQuestions.{inside_list}
use Rattle.clash.specs.ChoiceFlags.{held}
use Rattle.clash.proofs.ChoiceFlags.{flags-hold}
use Rattle.lines.specs.Listing.{point_line}
use Rattle.lines.proofs.Writing.{added_more}
use Rattle.lines.proofs.points.add_point.Goals as goal

pub returns : goal.returns
unfolding point_line
returns c =
    let a = c.args in
    let p = a.plate.now in
    let call : c.call_number.result ≡ call_number p a.position = c.call_number.ensures in
    let inside : held a.inside.now a.position ≡ among a.position (inside_list p) =
    flags-hold a.inside.now (inside_list p) c.requires.inside_value.0 a.position c.ranges.position.fits in
    let called = rw call at c.decimal.ensures in
    let placed = rw (inside, c.requires.inside_value.1) at c.add_place.ensures in
    added_more {a = 15} (added_more called placed (omega arith)) c.end.ensures (omega arith)
