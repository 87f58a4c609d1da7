-- `optimum::choosing::chosen` meets its contract: the calls in turn. Assumes nothing.
use Rattle.std.proofs.Common.{◌≡◌, ℕ, length, replicate, ap, ◌∙◌, arith}
use Rattle.format.proofs.Accepted.{accepted}
use Rattle.optimum.proofs.Prepared.{prepared}
use Rattle.optimum.proofs.Split.{numbered}
use Rattle.optimum.proofs.Chosen.{none-blank, none-valid, lists-chosen, none-chosen}
use Rattle.optimum.proofs.choosing.chosen.Goals as goal
use Rattle.optimum.proofs.choosing.chosen.Goals.{After-clear}

-- the array is ready for the table, with whatever ranks it is the sheet's
pub invariant_of-points : goal.invariant_of-points
invariant_of-points c =
    let ready = prepared c.requires.1.1 c.write_limits.ensures in
    record { packed = ready.packed; numbered = numbered _ (accepted _ c.requires.0).proper.few ready.arranged }

pub solve-value-requires : goal.solve-value-requires
solve-value-requires c = (c.requires.2, none-blank)

-- the workspace is left zero
zero : (c : After-clear) → c.clear.new.workspace ≡ replicate (length c.args.workspace.now) 0
zero c = c.clear.ensures ∙ ap (λ (n : ℕ). replicate n 0) c.solve-value.ensures.1

pub returns-then-value-eq0 : goal.returns-then-value-eq0
returns-then-value-eq0 c = (
  λ rank o. none-chosen rank c.args.sheet.now
      (none-valid rank _ _ _ (accepted _ c.requires.0) (prepared o c.write_limits.ensures) c.solve-value.ensures.0
      c.if-value-eq0.true),
  zero (goal.at.returns-then-value-eq0 c).After-clear,
)

pub two_lists-requires : goal.two_lists-requires
two_lists-requires c = omega (arith, (accepted _ c.requires.0).proper.few, c.point_count.ensures)

pub returns : goal.returns
returns c =
    let lists = rw c.point_count.ensures at c.two_lists.ensures in (
      λ rank o. lists-chosen rank _ _ _ _ (accepted _ c.requires.0) (prepared o c.write_limits.ensures)
          c.solve-value.ensures.0 c.if-value-eq0.false
          (record { at = c.by_position-choice.ensures }) c.two_lists.result lists,
      zero (goal.at.returns c).After-clear,
    )
