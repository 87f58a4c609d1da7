-- `lines::margins::columns_used` meets its contract. Assumes nothing.
use Rattle.std.proofs.Common.{ap, ◌∙◌, unwrap_or, rules, tests}
use Rattle.std.proofs.lemmas.Iterator.{YieldsList-from_slice, YieldsList-from_map}
use Rattle.std.proofs.lemmas.Iterator.Consumers.{reduce_from_yields_List}
use Rattle.std.proofs.lemmas.List.Folds.{max_of_map}
use Rattle.lines.proofs.PairLaws.{pairs_of, next_column, columns-folded}
use Rattle.lines.proofs.margins.columns_used.Goals as goal

pub returns : goal.returns
returns c =
    let p = c.args.pairs.now in
    c.unwrap_or.ensures ∙ ap (λ o. unwrap_or o 0) (reduce_from_yields_List _ c.map.result _ c.max.ensures.ran (YieldsList-from_map _ next_column (YieldsList-from_slice (pairs_of p) cc) c.map.ensures.closure (λ x b q k. search (rules, tests))))
    ∙ max_of_map next_column (pairs_of p) ∙ columns-folded p
