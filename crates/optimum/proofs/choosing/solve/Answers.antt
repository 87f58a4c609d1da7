-- `optimum::choosing::solve` meets its contract, by the value and the recovery of all points. Assumes nothing.
use Rattle.std.proofs.Common.{◌∙◌, arith}
use Rattle.optimum.proofs.Memo.{memo-none}
use Rattle.optimum.proofs.RecoveryLaws.{all-ready, all_none, all-solved}
use Rattle.optimum.proofs.choosing.solve.Goals as goal

pub value_of-best-requires : goal.value_of-best-requires
value_of-best-requires c =
    let p = c.requires in
    let unnoted = c.clear_notes.ensures in
    record { ready = all-ready _ _ c.point_count.ensures.0; memo = memo-none (omega (arith, unnoted.same, p.0)) unnoted }

pub returns-then-best-eq0 : goal.returns-then-best-eq0
returns-then-best-eq0 c =
    let p = c.requires in
    let valued = c.value_of-best.ensures in (
      all_none _ _ c.point_count.ensures.0 c.args.points.now.packed _ _ valued.is c.if-best-eq0.true,
      valued.kept.same ∙ c.clear_notes.ensures.same,
    )

pub slab-requires : goal.slab-requires
slab-requires c =
    let p = c.requires in
    let valued = c.value_of-best.ensures in
    record {
      asked = record { ready = all-ready _ _ c.point_count.ensures.0; memo = valued.kept.memo };
      some = omega (arith, valued.is, c.if-best-eq0.false);
    }

pub returns : goal.returns
returns c =
    let p = c.requires in
    let valued = c.value_of-best.ensures in
    let flagged = c.slab.ensures in (
      all-solved _ _ c.point_count.ensures.0 c.args.points.now.packed _ _ _ p.1 flagged.flagged valued.is,
      flagged.kept.same ∙ (valued.kept.same ∙ c.clear_notes.ensures.same),
    )
