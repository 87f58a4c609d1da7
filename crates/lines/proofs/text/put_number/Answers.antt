-- `lines::text::put_number` meets its contract. Assumes nothing.
use Rattle.std.proofs.Common.{arith}
use Rattle.lines.specs.Text.{spaced}
use Rattle.lines.proofs.Put.{put_one, put-more}
use Rattle.lines.proofs.text.put_number.Goals as goal

pub returns : goal.returns
unfolding spaced
returns c =
    let a = c.args in
    put-more (omega (arith, c.requires)) (put_one a.bytes.now a.at 32 (omega (arith, c.requires))) c.put_decimal.ensures
