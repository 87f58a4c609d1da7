-- `optimum::limits::high` meets its contract: none that overlaps i is less than j. Assumes nothing.
use Rattle.std.proofs.Common.{sym, ◌∙◌, arith}
use Rattle.optimum.proofs.LimitsLaws.{high-start, high-ends, high-found, high-next, high-none}
use Rattle.optimum.proofs.limits.high.Goals as goal

pub loop-j-init : goal.loop-j-init
loop-j-init c = high-start _ _

pub returns-then-label_below : goal.returns-then-label_below
returns-then-label_below c =
    let x =
    high-ends c.requires.0.sorted _
    c.requires.1 (omega arith) (omega arith)
    c.loop-j.invariant (sym c.label_below.ensures ∙ c.if-label_below.true) in
    (omega (arith, x), omega arith)

pub returns-then-column_within : goal.returns-then-column_within
returns-then-column_within c = (
  high-found c.requires.0.sorted
      _ c.requires.1
      (omega arith) (omega arith) c.loop-j.invariant
      (sym c.label_below.ensures ∙ c.if-label_below.false)
      c.column_at-column.ensures.0 (omega (arith, c.column_at-column.ensures, c.label_width.ensures))
      (sym c.column_within.ensures ∙ c.if-column_within.true),
  omega (arith, c.requires.0.few),
)

pub loop-j-preserved : goal.loop-j-preserved
loop-j-preserved c =
    high-next c.requires.0.sorted
    _ c.requires.1
    (omega arith) (omega arith) c.loop-j.invariant
    (sym c.label_below.ensures ∙ c.if-label_below.false)
    c.column_at-column.ensures.0 (omega (arith, c.column_at-column.ensures, c.label_width.ensures))
    (sym c.column_within.ensures ∙ c.if-column_within.false)

pub returns : goal.returns
returns c = let x = high-none _ _ _ (omega arith) c.loop-j.invariant in (omega (arith, x), omega (arith, c.requires.0.few))
