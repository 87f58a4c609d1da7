-- `lines::text::put_digit` meets its contract. Assumes nothing.
use Rattle.lines.specs.Text.{digit}
use Rattle.lines.proofs.Put.{put_one}
use Rattle.lines.proofs.text.put_digit.Goals as goal

pub returns : goal.returns
returns c = put_one c.args.bytes.now c.args.at (digit c.args.value) c.requires.1
