-- `format::copy_to` meets its contract: after i turns the first i bytes are copied. Assumes nothing.
use Rattle.std.proofs.Common.{◌≡◌, ◌+◌, ◌<◌, length, sym, ◌∙◌, ap, arith}
use Rattle.std.specs.Prelude.{take}
use Rattle.std.proofs.Math.Seq.{take-length}
use Rattle.format.specs.Written.{written}
use Rattle.format.proofs.Written.{written-fits, written-no-room, written_none, copied_more}
use Rattle.format.proofs.writing.copy_to.Goals as goal
use Rattle.format.proofs.writing.copy_to.Goals.{else-at-output-via-then-at-output+else-bytes-output, else-at-output-via-else-at-output}

pub loop-i-init : goal.loop-i-init
loop-i-init c = written_none c.args.output.now c.args.at

pub loop-i-preserved : goal.loop-i-preserved
loop-i-preserved c =
    let a = c.args in
    copied_more a.output.now a.at a.bytes.now c.loop-i.output c.loop-i.i (omega arith) (omega arith) c.loop-i.invariant

pub returns-after-loop-i : goal.returns-after-loop-i
returns-after-loop-i c =
    let a = c.args in
    let all : c.loop-i.i ≡ length a.bytes.now = omega (arith, c.loop-i.auto.i-end, c.loop-i-test.false) in
    c.loop-i.invariant
    ∙ ap (λ k. written a.output.now a.at (take k a.bytes.now)) all
    ∙ ap (written a.output.now a.at) (take-length a.bytes.now)
    ∙ sym (written-fits a.output.now a.at a.bytes.now (omega arith))

pub returns-else-at-output : goal.returns-else-at-output
returns-else-at-output c =
    let a = c.args in
    let no_room : length a.output.now < a.at + length a.bytes.now =
    elim c.else-at-output.branch [
      | else-at-output-via-then-at-output+else-bytes-output w ↦ omega arith
      | else-at-output-via-else-at-output w ↦ omega arith
    ]
    in
    sym (written-no-room _ _ _ no_room)
