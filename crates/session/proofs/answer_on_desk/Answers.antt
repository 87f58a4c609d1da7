use Rattle.std.proofs.Common.{arith}
use Rattle.lines.proofs.Writing.{prints-whole}
use Rattle.session.proofs.answer_on_desk.Goals as goal

pub write_line-requires : goal.write_line-requires
write_line-requires g c = prints-whole (omega arith) c.run_call-n.ensures.line
