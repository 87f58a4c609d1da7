-- `optimum::table::clear_notes` meets its contract: the notes of the points are 0. Assumes nothing.
use Rattle.std.proofs.Common.{◌≡◌, ◌+◌, ◌≤◌, length, replicate, arith, rules}
use Rattle.optimum.specs.Places.{notes}
use Rattle.optimum.proofs.Places.{tet-below}
use Rattle.optimum.proofs.Memo.{cleared}
use Rattle.optimum.proofs.table.clear_notes.Goals as goal
use Rattle.optimum.proofs.table.clear_notes.Goals.{After-tetrahedral-end}

-- the cells are some of the table's
within : (c : After-tetrahedral-end) → notes + c.tetrahedral-end.result ≤ length c.args.table.now
within c =
    omega (
      arith,
      tet-below _ _ c.tetrahedral-end.ensures.0 (omega (arith, c.point_count.ensures.0, c.args.points.now.packed.few)),
      c.requires,
    )

pub slice_bounds-fill-end : goal.slice_bounds-fill-end
slice_bounds-fill-end c = omega (arith, within (goal.at.slice_bounds-fill-end c).After-tetrahedral-end)

pub returns : goal.returns
returns c =
    let w = within (goal.at.returns c).After-tetrahedral-end in
    let z : c.fill.new.self ≡ replicate c.tetrahedral-end.result 0 = search rules in
    cleared _ _ _ _ _ c.point_count.ensures.0 c.tetrahedral-end.ensures.0 w z
