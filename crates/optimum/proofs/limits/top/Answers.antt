-- `optimum::limits::top` meets its contract: none that reaches over i is more than j. Assumes nothing.
use Rattle.std.proofs.Common.{◌≡◌, ◌-◌, sym, ◌∙◌, arith}
use Rattle.optimum.proofs.LimitsLaws.{top_start, top-ends, top-found, top-next, top-none}
use Rattle.optimum.proofs.limits.top.Goals as goal

pub loop-j-init : goal.loop-j-init
loop-j-init c = top_start _ _

pub returns-then-label_below : goal.returns-then-label_below
returns-then-label_below c = (
  top-ends c.requires.0.sorted _ c.requires.1
      (omega arith) (omega arith) c.loop-j.invariant (sym c.label_below.ensures ∙ c.if-label_below.true),
  omega arith,
)

pub returns-then-column_within : goal.returns-then-column_within
returns-then-column_within c = (
  top-found c.requires.0.sorted
      _ c.requires.1
      (omega arith) (omega arith) c.loop-j.invariant
      (sym c.label_below.ensures ∙ c.if-label_below.false)
      (omega (arith, c.column_at-column.ensures)) (omega (arith, c.column_at-column.ensures, c.label_width.ensures))
      (sym c.column_within.ensures ∙ c.if-column_within.true),
  omega (arith, c.requires.0.few, c.requires.1.high),
)

pub loop-j-preserved : goal.loop-j-preserved
loop-j-preserved c =
    top-next c.requires.0.sorted
    _ c.requires.1
    (omega arith) (omega arith) c.loop-j.invariant
    (sym c.label_below.ensures ∙ c.if-label_below.false)
    (omega (arith, c.column_at-column.ensures)) (omega (arith, c.column_at-column.ensures, c.label_width.ensures))
    (sym c.column_within.ensures ∙ c.if-column_within.false)

pub returns : goal.returns
returns c = let e : c.loop-j.j - 1 ≡ 0 = omega arith in (top-none _ _ (rw e at c.loop-j.invariant), omega arith)
