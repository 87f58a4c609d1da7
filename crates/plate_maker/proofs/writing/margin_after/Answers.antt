-- `plate_maker::writing::margin_after` meets its contract. Assumes nothing.
use Rattle.std.proofs.Common.{arith}
use Rattle.labeling.proofs.Margin.{next-most}
use Rattle.format.specs.Sheet.{points_of}
use Rattle.plate_maker.specs.Writing.{margin_after}
use Rattle.plate_maker.proofs.writing.margin_after.Goals as goal

pub overflow_cast-result : goal.overflow_cast-result
overflow_cast-result c =
    let pair = c.in-Some.pair in
    let small = rw c.in-Some.is at c.requires in
    omega (arith, small, c.next_margin.ensures, next-most (points_of c.args.sheet.now) pair.position pair.margin c.args.position)
