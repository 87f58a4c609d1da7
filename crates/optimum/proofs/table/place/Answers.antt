-- `optimum::table::place` meets its contract, by the two tables of numbers. Assumes nothing.
use Rattle.optimum.proofs.Steps.{place-sum}
use Rattle.std.proofs.Common.{arith}
use Rattle.optimum.proofs.table.place.Goals as goal

pub overflow_add-result-2 : goal.overflow_add-result-2
overflow_add-result-2 c =
    omega (
      arith,
      (place-sum c.requires c.args.points.now.packed c.tetrahedral.result
          c.triangular.result c.tetrahedral.ensures.0 c.triangular.ensures.0).1,
    )

pub returns : goal.returns
returns c =
    place-sum c.requires c.args.points.now.packed _ _ c.tetrahedral.ensures.0
    c.triangular.ensures.0
