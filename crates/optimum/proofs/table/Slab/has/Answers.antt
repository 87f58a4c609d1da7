-- `optimum::table::Slab::has` meets its contract, by the law of the distance that wraps round. Assumes nothing.
use Rattle.std.proofs.Common.{arith}
use Rattle.optimum.proofs.Steps.{between-wrapped}
use Rattle.optimum.proofs.table.Slab.has.Goals as goal

pub returns : goal.returns
returns c = between-wrapped _ _ _ _ c.requires (omega arith) (omega arith) (omega arith)
