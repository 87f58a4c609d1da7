-- `lines::text::put_decimal` meets its contract. Assumes nothing.
use Rattle.std.proofs.Common.{◌≤◌, arith}
use Rattle.lines.proofs.Decimal.{decimal-small, decimal-length, one-longer}
use Rattle.lines.proofs.Put.{put-looser}
use Rattle.lines.proofs.Laws.{put-longer}
use Rattle.lines.proofs.text.+put_decimal.Goals as goal

pub returns-then-number-lt10 : goal.returns-then-number-lt10
returns-then-number-lt10 t c =
    rw (decimal-small c.args.number (omega (arith, c.if-number-lt10.true)))
    (put-looser (omega arith) c.put_digit.ensures)

pub put_digit-requires-2 : goal.put_digit-requires-2
put_digit-requires-2 t c =
    let great : 10 ≤ c.args.number = omega (arith, c.if-number-lt10.false) in (
      omega arith,
      omega (
        arith,
        one-longer c.args.number great,
        decimal-length c.args.number c.ranges.number.fits,
        c.requires,
        c.put_decimal-last.ensures.next-is,
        c.put_decimal-last.auto.bytes,
      ),
    )

pub returns : goal.returns
returns t c =
    put-longer c.args.number c.ranges.number.fits (omega (arith, c.if-number-lt10.false)) c.requires
    c.put_decimal-last.ensures c.put_digit-2.ensures
