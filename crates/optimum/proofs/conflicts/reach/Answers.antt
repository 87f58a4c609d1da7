-- `optimum::conflicts::reach` meets its contract, by the topmost label. Assumes nothing.
use Rattle.optimum.proofs.ConflictsLaws.{reach-newer, reach-nobody, reach-older, reach-none}
use Rattle.std.proofs.Common.{sym, ◌∙◌}
use Rattle.optimum.proofs.conflicts.reach.Goals as goal
use Rattle.optimum.proofs.conflicts.reach.Goals.{else-slab-ne0-via-then-slab-ne0+else-reaches_over, else-slab-ne0-via-else-slab-ne0}

pub returns-then-top-slab : goal.returns-then-top-slab
returns-then-top-slab c = reach-newer _ _ _ _ c.requires.0 _ c.top-top.ensures c.if-top-slab.true

pub returns-then-reaches_over : goal.returns-then-reaches_over
returns-then-reaches_over c =
    reach-older _ _ _ _ c.requires.0 _
    c.top-top.ensures c.if-top-slab.false
    (sym c.reaches_over.ensures ∙ c.if-reaches_over.true)

pub returns : goal.returns
returns c =
    elim c.else-slab-ne0.branch [
      | else-slab-ne0-via-then-slab-ne0+else-reaches_over w ↦
          reach-none _ _ _ _ c.requires.0 _
          c.top-top.ensures c.if-top-slab.false
          (sym w.reaches_over.ensures ∙ w.if-reaches_over.false)
      | else-slab-ne0-via-else-slab-ne0 w ↦
          reach-nobody _ _ _ _ c.requires.0 _
          c.top-top.ensures c.if-top-slab.false w.if-slab-ne0.false
    ]
