-- `plate_reader::pairs_after` meets its contract. Assumes nothing.
use Rattle.std.proofs.Common.{sym, ◌∙◌}
use Rattle.plate_reader.proofs.Laws.{after_pair}
use Rattle.plate_reader.proofs.pairs_after.Goals as goal

pub loop-rest-preserved : goal.loop-rest-preserved
loop-rest-preserved c =
    c.loop-rest.invariant
    ∙ after_pair _ _ _ _ _ c.in-len2-up.len_at_least (sym c.pair_follows.ensures ∙ c.if-not-pair_follows.false)
