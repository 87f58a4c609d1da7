-- `plate_maker::writing::write_split` meets its contract: the two lists are those of the choice. Assumes nothing.
use Rattle.std.proofs.Common.{◌≡◌, ap, ◌∙◌, arith}
use Rattle.format.proofs.Accepted.{accepted}
use Rattle.format.proofs.Padded.{padded-take}
use Rattle.plate_maker.proofs.PlateOfLists.{both-lengths, choice-written}
use Rattle.plate_maker.proofs.writing.write_split.Goals as goal

pub write_plate-requires : goal.write_plate-requires
write_plate-requires c =
    let s = c.args.sheet.now in
    let S = c.requires.1.0 in
    let b = c.requires.1.1 in
    let a = accepted s c.requires.0 in
    let n = both-lengths s S in
    rw (c.list.ensures, c.list-2.ensures, b, padded-take 32 _, padded-take 32 _) (
      omega (arith, n, a.proper.few),
      omega (arith, n, a.proper.few),
      omega (arith, n, a.long, c.requires.2),
    )

pub returns : goal.returns
returns c S b =
    let plate = c.write_plate.ensures in
    choice-written c.args.sheet.now S _ _ _ _ _ (rw (c.list.ensures, b) (padded-take 32 _)) (rw (c.list-2.ensures, b) (padded-take 32 _))
    plate.0 plate.1
