-- `optimum::recovery::slab` and `cut` meet their contracts: what lies between a slab's ends falls, and the flags are the recovered
-- choice's. Assumes nothing.
use Rattle.std.proofs.Common.{arith}
use Rattle.optimum.proofs.Memo.{kept_refl, kept_trans}
use Rattle.optimum.proofs.Steps.{open-below-few, open-candidate}
use Rattle.optimum.proofs.RecoveryLaws.{flagged-zero, cut_opened, cut_low, cut_high, cut-flagged}
use Rattle.optimum.proofs.recovery.+cut_slab.Goals as goal

pub cut-returns-then-k-eq0 : goal.cut-returns-then-k-eq0
cut-returns-then-k-eq0 t c =
    record { flagged = flagged-zero _ _ _ _ c.if-k-eq0.true; kept = kept_refl c.requires.0.asked.memo }

pub cut-at_rank-p-requires : goal.cut-at_rank-p-requires
cut-at_rank-p-requires t c =
    let p = c.requires in
    omega (arith, p.1.below, open-below-few p.0.asked.ready c.args.points.now.packed)

-- the point that the slab is cut at is open
pub cut-reach-over-requires : goal.cut-reach-over-requires
cut-reach-over-requires t c =
    let o = (cut_opened c.requires.0 c.requires.1 c.if-k-eq0.false c.at_rank-p.ensures.0 c.args.points.now.packed).0 in
    (o.point, (open-candidate o).fits, o.low)

pub cut-slab-requires : goal.cut-slab-requires
cut-slab-requires t c =
    let packed = c.args.points.now.packed in
    let p = c.requires in
    let o = (cut_opened p.0 p.1 c.if-k-eq0.false c.at_rank-p.ensures.0 packed).0 in
    rw c.lower_part.ensures
    (omega (arith, o.low, o.high, c.decreases), cut_low p.0 p.1 c.if-k-eq0.false c.at_rank-p.ensures.0 packed)

pub cut-slab-requires-2 : goal.cut-slab-requires-2
cut-slab-requires-2 t c =
    let packed = c.args.points.now.packed in
    let p = c.requires in
    let o = (cut_opened p.0 p.1 c.if-k-eq0.false c.at_rank-p.ensures.0 packed).0 in
    rw c.upper_part.ensures (
      omega (arith, o.low, o.high, c.decreases),
      cut_high p.0 p.1 c.if-k-eq0.false c.at_rank-p.ensures.0 packed c.slab.ensures.kept.memo _ c.reach-over.ensures,
    )

pub cut-returns : goal.cut-returns
cut-returns t c =
    let p = c.requires in record {
      flagged =
          cut-flagged p.0 p.1 c.if-k-eq0.false c.at_rank-p.ensures.0 c.args.points.now.packed _ _ _ _
          c.reach-over.ensures (rw c.lower_part.ensures at c.slab.ensures.flagged) (rw c.upper_part.ensures at c.slab-2.ensures.flagged);
      kept = kept_trans c.slab.ensures.kept c.slab-2.ensures.kept;
    }
